-- What the PSL check refuses.
use Rattle.trace.specs.declared.refusal.Refusal.TheVariants.{PslLength, PslKind, PslUnused, PslSignal, PslOperand, PslSort, PslUse, PslRoot}
use Rattle.std.specs.Prelude.{Bool, true, false, not, List, [], ◌∷◌, ℕ, zero, suc, ◌+◌, ◌-◌, eqb}
use Rattle.std.proofs.Math.Option.{Option, none, some}
use Rattle.trace.specs.declared.refusal.Refusal.{Refusal}
use Rattle.trace.specs.Refusal.{unless, or_else, lowest}
use Rattle.table.specs.Node.{count, kind_at, left_at, right_at}
use Rattle.table.specs.Rules.{Use, unused, signal, operand, boolean, formula, Rules, shape_of}
use Rattle.table.specs.Check.{is_boolean, table_refusal}

-- How many kinds, the first, are Booleans; the others are formulas.
abbrev pub boolean_kinds : ℕ
boolean_kinds = 4

-- What stands left and right, kind by kind.
abbrev pub psl_rules : Rules
psl_rules =
    record {
      kinds =
          (unused, unused)  -- 0 true
          ∷ (signal, unused)  -- 1 var
          ∷ (boolean, unused)  -- 2 bnot
          ∷ (boolean, boolean)  -- 3 band
          ∷ (boolean, unused)  -- 4 weak
          ∷ (boolean, unused)  -- 5 strong
          ∷ (formula, unused)  -- 6 not
          ∷ (formula, formula)  -- 7 and
          ∷ (formula, unused)  -- 8 next
          ∷ (formula, formula)  -- 9 until
          ∷ (formula, boolean)  -- 10 abort
          ∷ [];
      most = 1024;
      refusals = record { length = PslLength; kind = PslKind; unused = PslUnused; signal = PslSignal; operand = PslOperand };
      sorts = some record { booleans = boolean_kinds; refusal = PslSort };
    }

-- How often a place that holds n names node j: once or not at all.
abbrev pub one : Bool → ℕ
one true = 1
one false = 0

abbrev pub names : Use → ℕ → ℕ → ℕ
names unused n j = 0
names signal n j = 0
names (operand b) n j = one (eqb n j)

-- The sum over the numbers below n.
unfoldable pub total : (ℕ → ℕ) → ℕ → ℕ
total f zero = 0
total f (suc n) = total f n + f n

-- How often node i names node j, and how often all nodes do.
unfoldable pub names_at : List ℕ → ℕ → ℕ → ℕ
names_at t j i =
    let h = shape_of psl_rules (kind_at t i) in
    names h.0 (left_at t i) j + names h.1 (right_at t i) j

abbrev pub uses : List ℕ → ℕ → ℕ
uses t j = total (names_at t j) (count t)

-- 7: node j, where it is not an operand exactly once.
unfoldable pub use_refusal : List ℕ → ℕ → Option Refusal
use_refusal t j = unless (eqb (uses t j) 1) (PslUse j) none

-- 8: the last node, where it is a Boolean.
unfoldable pub root_refusal : List ℕ → Option Refusal
root_refusal t = unless (not (is_boolean psl_rules t (count t - 1))) (PslRoot (count t - 1)) none

-- After every node has passed: 7 for the lowest node but the last, then 8.
unfoldable pub tree_refusal : List ℕ → Option Refusal
tree_refusal t = or_else (lowest (use_refusal t) (count t - 1)) (root_refusal t)

-- 1 to 6 as both tables have them, then these.
unfoldable pub psl_refusal : List ℕ → Option Refusal
psl_refusal t = or_else (table_refusal psl_rules t) (tree_refusal t)
