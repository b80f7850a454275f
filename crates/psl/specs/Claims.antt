-- What is proved of PSL tables, in one list.
use Rattle.std.specs.Prelude.{◌≡◌, false, List, ℕ, ◌*◌, ◌≤◌, length, Some}
use Rattle.std.proofs.Math.Option.{none, some}
use Rattle.std.specs.Prelude.{Result}
use Rattle.trace.specs.declared.refusal.Refusal.{Refusal}
use Rattle.trace.specs.Refusal.{place}
use Rattle.table.specs.Node.{count, numbers_of}
use Rattle.logic.specs.Formula.{Formula}
use Rattle.psl.specs.Size.{node_count}
use Rattle.psl.specs.Table.{formula_of}
use Rattle.psl.specs.Closing.{closing_nodes, large_signal}
use Rattle.psl.specs.Check.{psl_refusal, psl_rules}
use Rattle.psl.specs.Carries.{Carries}
use Rattle.psl.specs.Answer.{PslChecks}

pub record Claims : Type 0 where
  -- The check has one answer for every table.
  pub one_answer : (t : List ℕ) (r r' : Result (Unit {0}) Refusal) → PslChecks t r → PslChecks t r' → r ≡ r'
  -- Which node a refusal carries; a table with such a refusal is not too long.
  pub placed : (t : List ℕ) (x : Refusal) (i : ℕ) → psl_refusal t ≡ some x → place x ≡ Some i → Carries t x i × (count t ≤ psl_rules.most)
  -- An accepted table has 1 to 1,024 nodes of three numbers each.
  pub sized : (t : List ℕ) → psl_refusal t ≡ none → (length t ≡ 3 * count t) × (1 ≤ count t) × (count t ≤ psl_rules.most)
  -- Its formula has as many nodes as the table.
  pub whole : (t : List ℕ) → psl_refusal t ≡ none → node_count (formula_of t) ≡ count t
  -- The closing table of a formula stands for that formula, and within the limits it passes the check.
  pub stands_for : (f : Formula) → formula_of (numbers_of (closing_nodes f)) ≡ f
  pub accepted : (f : Formula) → length (closing_nodes f) ≤ psl_rules.most → large_signal f ≡ false → psl_refusal (numbers_of (closing_nodes f)) ≡ none
