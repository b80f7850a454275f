-- What holds of both verdicts together, of the answers to trace lines and of every run, each statement proved in `ClaimsLaw`.
use Rattle.std.specs.Prelude.{◌≡◌, ◌↔◌, List, ℕ, ◌+◌, ◌^◌, ◌<◌, ◌≤◌, length, Bool, Result}
use Rattle.std.proofs.Math.Option.{none}
use Rattle.logic.specs.Trace.{size}
use Rattle.logic.specs.Formula.{Formula}
use Rattle.trace.specs.declared.refusal.Refusal.{Refusal}
use Rattle.psl.specs.Table.{formula_of}
use Rattle.psl.specs.Check.{psl_refusal}
use Rattle.translate.specs.Emitted.{emitted}
use Rattle.psl_verdict.specs.Verdict.{PslJudges}
use Rattle.ltl_verdict.specs.Verdict.{LtlJudges}
use Rattle.text.specs.Text.{text}
use Rattle.trace_lines.specs.Spelling.{TraceLists}
use Rattle.printing.specs.Printed.{verdict_text}
use Rattle.printing.specs.Limits.{most_later}
use Rattle.answers.specs.Answer.{Judged, LaterAnswer, later_text}
use Rattle.answers.specs.Whole.{Runs}
use Rattle.answers.specs.declared.Verdicts.{Verdicts}

pub record Claims : Type 0 where
  -- Tables: on a trace with letters the PSL verdict on an accepted table is the LTL verdict on its emitted table.
  pub agree_tables : (t lead loop : List ℕ) (v w : Result Bool Refusal) → psl_refusal t ≡ none → 0 < size lead loop
      → PslJudges t lead loop v → LtlJudges (emitted (formula_of t)) lead loop w → v ≡ w
  -- Lines: the two verdicts that a trace line is answered by agree on every trace with letters.
  pub agree_lines : (f : Formula) (t : TraceLists) (v w : Result Bool Refusal) → Judged f t v w → 0 < size t.lead t.loop → v ≡ w
  -- A trace line has one answer.
  pub one_answer : (f : Formula) (line : List ℕ) (r q : Result Verdicts Refusal) → LaterAnswer f line r → LaterAnswer f line q → r ≡ q
  -- An input has one output.
  pub one_output : (input out out' : List ℕ) → Runs input out → Runs input out' → out ≡ out'
  -- `none` is printed for the LTL verdict on the empty trace, and nowhere else.
  pub none_ltl : (f : Formula) (t : TraceLists) (v w : Result Bool Refusal) → Judged f t v w → (verdict_text w ≡ text "none") ↔ (size t.lead t.loop ≡ 0)
  pub none_psl : (f : Formula) (t : TraceLists) (v w : Result Bool Refusal) → Judged f t v w → verdict_text v ≡ text "none" → ⊥
  -- No answer to a trace line has more bytes, where its line's number fits 64 bits.
  pub later_short : (f : Formula) (line : List ℕ) (i : ℕ) (a : Result Verdicts Refusal) → LaterAnswer f line a → i + 1 < 2 ^ 64 → length (later_text i a) ≤ most_later
