-- What the translator answers, and what it leaves in the lent list.
use Rattle.std.specs.Prelude.{◌≡◌, List, ◌++◌, ℕ, ◌*◌, ◌≤◌, leb, length, take, drop, Result, Ok, Err}
use Rattle.std.proofs.Math.Option.{Option, none, some}
use Rattle.trace.specs.declared.refusal.Refusal.{Refusal}
use Rattle.trace.specs.declared.refusal.Refusal.TheVariants.{TableRoom}
use Rattle.trace.specs.Refusal.{unless, or_else}
use Rattle.logic.specs.Formula.{Formula}
use Rattle.psl.specs.Table.{formula_of}
use Rattle.psl.specs.Check.{psl_refusal}
use Rattle.ltl.specs.Check.{ltl_refusal}
use Rattle.translate.specs.Emitted.{emitted, emitted_size, most_emitted}
use Rattle.translate.specs.Claim.{Translates}

-- The check's refusals, then 10 where the space is below 3 × S numbers.
unfoldable pub translate_refusal : List ℕ → ℕ → Option Refusal
translate_refusal t room = or_else (psl_refusal t) (unless (leb (3 * emitted_size (formula_of t)) room) TableRoom none)

-- S, or the refusal.
abbrev pub answer : Option Refusal → ℕ → Result ℕ Refusal
answer none s = Ok s
answer (some x) s = Err x

-- The table in front and the rest untouched, or all of the list untouched.
abbrev pub list_after : Option Refusal → List ℕ → List ℕ → List ℕ
list_after none table l = table ++ drop (length table) l
list_after (some x) table l = l

-- What a success of size s leaves in front: the emitted table of the formula f, in 3 × s numbers. It is an LTL table of at most 4,094 nodes, and it keeps
-- the meaning: this is demand 3, of the numbers at exit.
pub record Delivered (f : Formula) (s : ℕ) (table : List ℕ) : Type 0 where
  pub is : table ≡ emitted f
  pub sized : length table ≡ 3 * s
  pub bounded : s ≤ most_emitted
  pub passes : ltl_refusal table ≡ none
  pub keeps : Translates f table

-- The translator's answer r and the lent list m at exit, for the table t and the list l at entry.
pub record Delivers (t l : List ℕ) (r : Result ℕ Refusal) (m : List ℕ) : Type 0 where
  pub answers : r ≡ answer (translate_refusal t (length l)) (emitted_size (formula_of t))
  pub leaves : m ≡ list_after (translate_refusal t (length l)) (emitted (formula_of t)) l
  pub succeeds : (s : ℕ) → r ≡ Ok s → Delivered (formula_of t) s (take (3 * s) m)
