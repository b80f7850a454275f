-- What holds of formula lines, each statement proved in `ClaimsLaw`.
use Rattle.std.specs.Prelude.{◌≡◌, List, ℕ, Some, Result, Err}
use Rattle.std.proofs.Math.Option.{none}
use Rattle.table.specs.Node.{numbers_of}
use Rattle.logic.specs.Written.{Written}
use Rattle.psl.specs.Check.{psl_refusal}
use Rattle.formula_lines.specs.Spelling.{formula_line}
use Rattle.formula_lines.specs.FormulaAnswer.{table_nodes, formula_limits, FormulaAnswer}
use Rattle.text.specs.Reading.{Breaks}
use Rattle.trace.specs.declared.refusal.Refusal.{Refusal}
use Rattle.trace.specs.declared.refusal.Refusal.TheVariants.{Shape}
use Rattle.trace.specs.Refusal.{place}

pub record Claims : Type 1 where
  -- No two written formulas have one line.
  pub one_formula : (v w : Written) → formula_line v ≡ formula_line w → v ≡ w
  -- Within the limits the table passes the PSL check.
  pub accepted : (w : Written) → formula_limits w ≡ none → psl_refusal (numbers_of (table_nodes w)) ≡ none
  -- A refusal that carries a place is 18, and the line breaks there.
  pub placed : (s l m : List ℕ) (e : Refusal) (p : ℕ) → FormulaAnswer s l (Err e) m → place e ≡ Some p → (e ≡ Shape p) × Breaks formula_line s p
  -- The reader has one answer, and leaves one content in the lent list.
  pub formula_answer : (s l : List ℕ) (r r' : Result ℕ Refusal) (m m' : List ℕ) → FormulaAnswer s l r m → FormulaAnswer s l r' m' → (r ≡ r') × (m ≡ m')
