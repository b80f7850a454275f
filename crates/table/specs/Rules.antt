-- The rules of a table: what each place of a node holds, kind by kind.
use Rattle.std.specs.Prelude.{Bool, true, false, List, ℕ, ltb, length, get_or}
use Rattle.std.proofs.Math.Option.{Option, none, some}
use Rattle.trace.specs.declared.refusal.Refusal.{Refusal}

-- What a place of a node holds: 0, or a signal, or the number of an operand, which is a Boolean or a formula.
pub data Use : Type 0 where
  unused signal : Use
  operand : Bool → Use

abbrev pub boolean : Use
boolean = operand true

abbrev pub formula : Use
formula = operand false

abbrev pub is_operand : Use → Bool
is_operand unused = false
is_operand signal = false
is_operand (operand b) = true

-- The refusals, each by what is wrong: of the length, or of node i.
pub record Refusals : Type 0 where
  pub length : Refusal
  pub kind : ℕ → Refusal
  pub unused : ℕ → Refusal
  pub signal : ℕ → Refusal
  pub operand : ℕ → Refusal

-- Where there are two sorts of nodes: how many kinds, the first, are Booleans, and the refusal of node i that has an operand of the wrong sort.
pub record Sorts : Type 0 where
  pub booleans : ℕ
  pub refusal : ℕ → Refusal

-- What stands left and right, kind by kind; the most nodes; the refusals; the sorts, if there are two.
pub record Rules : Type 0 where
  pub kinds : List (Use × Use)
  pub most : ℕ
  pub refusals : Refusals
  pub sorts : Option Sorts

-- A number that is a kind of the table.
abbrev pub known : Rules → ℕ → Bool
known R k = ltb k (length R.kinds)

-- What its places hold.
abbrev pub shape_of : Rules → ℕ → Use × Use
shape_of R k = get_or R.kinds k (unused, unused)

-- A kind that is a Boolean.
abbrev pub boolean_kind : Option Sorts → ℕ → Bool
boolean_kind none k = false
boolean_kind (some s) k = ltb k s.booleans
