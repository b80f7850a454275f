-- What is proved of LTL tables, in one list.
use Rattle.std.specs.Prelude.{◌≡◌, List, ℕ, ◌*◌, ◌≤◌, ◌<◌, length, Some}
use Rattle.std.proofs.Math.Option.{none, some}
use Rattle.logic.specs.Letter.{signals}
use Rattle.std.specs.Prelude.{Result}
use Rattle.trace.specs.declared.refusal.Refusal.{Refusal}
use Rattle.trace.specs.Refusal.{place, IsLowest}
use Rattle.table.specs.Check.{refusal_at}
use Rattle.table.specs.Node.{count, kind_at, left_at, right_at}
use Rattle.table.specs.Rules.{unused, shape_of}
use Rattle.ltl.specs.Check.{ltl_rules, LeftOperand, RightOperand, ltl_refusal}
use Rattle.ltl.specs.Answer.{LtlChecks}

pub record Claims : Type 0 where
  -- The check has one answer for every table.
  pub one_answer : (t : List ℕ) (r r' : Result (Unit {0}) Refusal) → LtlChecks t r → LtlChecks t r' → r ≡ r'
  -- The node that a refusal carries is the lowest that is refused; a table with such a refusal is not too long.
  pub placed : (t : List ℕ) (x : Refusal) (i : ℕ) → ltl_refusal t ≡ some x → place x ≡ Some i → IsLowest (refusal_at ltl_rules t) (count t) x i × (count t ≤ ltl_rules.most)
  -- An accepted table has 1 to 4,096 nodes of three numbers each.
  pub sized : (t : List ℕ) → ltl_refusal t ≡ none → (length t ≡ 3 * count t) × (1 ≤ count t) × (count t ≤ ltl_rules.most)
  -- Each var names a signal.
  pub signal : (t : List ℕ) → ltl_refusal t ≡ none → (i : ℕ) → i < count t → kind_at t i ≡ 1 → left_at t i < signals
  -- An operand comes before its user.
  pub before : (t : List ℕ) → ltl_refusal t ≡ none → (i : ℕ) → i < count t
      → (LeftOperand (kind_at t i) → left_at t i < i) × (RightOperand (kind_at t i) → right_at t i < i)
  -- An unused place holds 0.
  pub blank : (t : List ℕ) → ltl_refusal t ≡ none → (i : ℕ) → i < count t
      → ((shape_of ltl_rules (kind_at t i)).0 ≡ unused → left_at t i ≡ 0) × ((shape_of ltl_rules (kind_at t i)).1 ≡ unused → right_at t i ≡ 0)
