-- What the functions promise of the tables that line 1 leaves for the later lines, and the bytes of a line that its answer rests on.
use Rattle.std.specs.Prelude.{◌≡◌, List, ℕ, ◌+◌, ◌≤◌, Some, Result, Ok, Err}
use Rattle.trace.specs.declared.refusal.Refusal.{Refusal}
use Rattle.trace.specs.Refusal.{place}
use Rattle.std.proofs.Math.Option.{none}
use Rattle.table.specs.Node.{numbers_of}
use Rattle.logic.specs.Written.{Written, spelled_out}
use Rattle.psl.specs.Check.{psl_refusal}
use Rattle.ltl.specs.Check.{ltl_refusal}
use Rattle.translate.specs.Emitted.{emitted}
use Rattle.text.specs.Limits.{most_bytes}
use Rattle.formula_lines.specs.FormulaAnswer.{table_nodes, formula_limits}

-- The bytes of a line that are kept: one more than it may have, so that a longer one is seen to be.
abbrev pub kept_bytes : ℕ
kept_bytes = most_bytes + 1

-- The PSL and the LTL table of a written formula that is within the limits.
pub record TablesOf (f : Written) (psl ltl : List ℕ) : Type 0 where
  pub limits : formula_limits f ≡ none
  pub read : psl ≡ numbers_of (table_nodes f)
  pub translated : ltl ≡ emitted (spelled_out f)

-- No refusal of a line carries a place past the end of the longest.
abbrev pub PlacedWithin : {A : Type 0} → Result A Refusal → Type 0
PlacedWithin (Ok a) = Unit {0}
PlacedWithin (Err x) = (p : ℕ) → place x ≡ Some p → p ≤ most_bytes

-- Both tables pass their check.
abbrev pub Accepted : List ℕ → List ℕ → Type 0
Accepted psl ltl = (psl_refusal psl ≡ none) × (ltl_refusal ltl ≡ none)
