-- What is proved of the translator, in one list.
use Rattle.std.specs.Prelude.{◌≡◌, List, ℕ, ◌*◌, ◌≤◌, length, Result, Ok}
use Rattle.std.proofs.Math.Option.{none}
use Rattle.logic.specs.Formula.{Formula}
use Rattle.psl.specs.Size.{node_count}
use Rattle.psl.specs.Table.{formula_of}
use Rattle.psl.specs.Check.{psl_refusal, psl_rules}
use Rattle.ltl.specs.Check.{ltl_refusal}
use Rattle.translate.specs.Emitted.{emitted, emitted_size, most_emitted}
use Rattle.translate.specs.Claim.{Translates}
use Rattle.translate.specs.Worked.{Worked}
use Rattle.translate.specs.Answer.{Delivers}
use Rattle.trace.specs.declared.refusal.Refusal.{Refusal}

pub record Claims : Type 0 where
  -- For every table and every lent list there is one answer, and one list at exit.
  pub one_answer : (t l : List ℕ) (r r' : Result ℕ Refusal) (m m' : List ℕ) → Delivers t l r m → Delivers t l r' m' → (r ≡ r') × (m ≡ m')
  -- A success of size s: the table is accepted, s is its S, and the list has room.
  pub success : (t l : List ℕ) (s : ℕ) (m : List ℕ) → Delivers t l (Ok s) m → (psl_refusal t ≡ none) × (s ≡ emitted_size (formula_of t)) × (3 * s ≤ length l)
  -- The emitted table has 3 × S numbers.
  pub sized : (f : Formula) → length (emitted f) ≡ 3 * emitted_size f
  -- S is at most 4,094 for an accepted table, and some formula of at most 1,024 nodes has that size.
  pub bounded : (t : List ℕ) → psl_refusal t ≡ none → emitted_size (formula_of t) ≤ most_emitted
  pub reached : (f : Formula) × (node_count f ≤ psl_rules.most) × (emitted_size f ≡ most_emitted)
  -- What an accepted table gives passes the LTL check.
  pub passes : (t : List ℕ) → psl_refusal t ≡ none → ltl_refusal (emitted (formula_of t)) ≡ none
  -- Demand 3: the emitted table of any formula keeps its meaning.
  pub keeps : (f : Formula) → Translates f (emitted f)
  -- The worked run is as the paper prints it.
  pub worked : Worked
