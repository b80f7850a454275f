-- The refusals that the operations answer.
use Rattle.std.specs.Prelude.{◌≡◌, List, ℕ, Err}
use Rattle.trace.specs.declared.refusal.Refusal.{Refusal}
use Rattle.trace.specs.Answer.{LetterIs}
use Rattle.table.specs.Node.{Node}
use Rattle.psl.specs.Answer.{PslChecks}
use Rattle.ltl.specs.Answer.{LtlChecks}
use Rattle.psl_verdict.specs.Verdict.{PslJudges}
use Rattle.ltl_verdict.specs.Verdict.{LtlJudges}
use Rattle.translate.specs.Answer.{Delivers}
use Rattle.formula_lines.specs.FormulaAnswer.{FormulaAnswer}
use Rattle.trace_lines.specs.TraceAnswer.{TraceAnswer}
use Rattle.node_lines.specs.NodeAnswer.{node_answer}

-- Some operation answers x, to some input.
pub data Refused (x : Refusal) : Type 0 where
  by_psl_check : (t : List ℕ) → PslChecks t (Err x) → Refused x
  by_ltl_check : (t : List ℕ) → LtlChecks t (Err x) → Refused x
  by_psl_verdict : (t lead loop : List ℕ) → PslJudges t lead loop (Err x) → Refused x
  by_ltl_verdict : (t lead loop : List ℕ) → LtlJudges t lead loop (Err x) → Refused x
  by_translation : (t l m : List ℕ) → Delivers t l (Err x) m → Refused x
  by_formula : (s l m : List ℕ) → FormulaAnswer s l (Err x) m → Refused x
  by_trace : (s k l m n : List ℕ) → TraceAnswer s k l (Err x) m n → Refused x
  by_node : (i : ℕ) (n : Node) (room : ℕ) → node_answer i n room ≡ Err x → Refused x
  by_letter : (lead loop : List ℕ) (m : ℕ) → LetterIs lead loop m (Err x) → Refused x
