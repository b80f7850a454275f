-- What a trace line of a run is answered, and the answer's text.
use Rattle.trace.specs.declared.refusal.Refusal.TheVariants.{EmptyTrace}
use Rattle.std.specs.Prelude.{◌≡◌, List, ℕ, suc, ◌<◌, Bool, true, false, Result, Ok, Err}
use Rattle.logic.specs.Trace.{size}
use Rattle.logic.specs.Formula.{Formula}
use Rattle.logic.specs.Meaning.{HoldsOn}
use Rattle.logic.specs.LtlMeaning.{LtlHoldsOn}
use Rattle.ltl.specs.Table.{tree_of}
use Rattle.translate.specs.Emitted.{emitted}
use Rattle.trace.specs.declared.refusal.Refusal.{Refusal}
use Rattle.text.specs.Reading.{Takes, Refuses}
use Rattle.trace_lines.specs.Spelling.{TraceLists, line_of_trace}
use Rattle.trace_lines.specs.TraceAnswer.{trace_limits}
use Rattle.printing.specs.Printed.{refused_text, trace_text}
use Rattle.answers.specs.declared.Verdicts.{Verdicts}

-- The verdict on a claim: yes where it is so, no where it is not.
abbrev pub VerdictOn : Type 0 → Result Bool Refusal → Type 0
VerdictOn A (Ok true) = A
VerdictOn A (Ok false) = A → ⊥
VerdictOn A (Err x) = ⊥

-- The verdicts v and w on a trace: v tells whether f holds by the PSL meaning, w whether its emitted table holds by the LTL meaning. On the empty
-- trace, which has no LTL meaning, w is refused, and printed as `none`.
pub record Judged (f : Formula) (t : TraceLists) (v w : Result Bool Refusal) : Type 0 where
  pub psl : VerdictOn (HoldsOn f t.lead t.loop) v
  pub ltl : 0 < size t.lead t.loop → VerdictOn (LtlHoldsOn (tree_of (emitted f)) t.lead t.loop) w
  pub empty : size t.lead t.loop ≡ 0 → w ≡ Err EmptyTrace

-- A trace line is answered by both verdicts on the trace that it spells, or by its refusal.
abbrev pub LaterAnswer : Formula → List ℕ → Result Verdicts Refusal → Type 0
LaterAnswer f line (Ok b) = (t : TraceLists) × Takes line_of_trace trace_limits line t × Judged f t b.psl b.ltl
LaterAnswer f line (Err x) = Refuses line_of_trace trace_limits line x

-- What the answer to trace line i prints; it is line i + 1 of the input.
abbrev pub later_text : ℕ → Result Verdicts Refusal → List ℕ
later_text i (Ok b) = trace_text i b.psl b.ltl
later_text i (Err x) = refused_text (suc i) x
