-- The letters, then what the accepted table says.
use Rattle.std.proofs.Common.{arith}
use Rattle.psl.specs.Check.{psl_refusal}
use Rattle.trace.proofs.JudgesLaw.{judged, too_long, not-long}
use Rattle.psl_verdict.specs.Verdict.{psl_verdict_refusal}
use Rattle.psl_verdict.proofs.judge_psl.Goals as goal

pub returns-then-size-gt-MOST_LETTERS : goal.returns-then-size-gt-MOST_LETTERS
unfolding psl_verdict_refusal
returns-then-size-gt-MOST_LETTERS c = let z = c.args.trace in
    too_long (psl_refusal c.args.t.numbers.now) z.lead.now z.cycle.now c.args.t.accepted (omega (arith, c.size.ensures, c.if-size-gt-MOST_LETTERS.true))

pub returns : goal.returns
unfolding psl_verdict_refusal
returns c = let z = c.args.trace in
    rw c.decided.ensures (judged c.psl_holds.result
    (not-long (psl_refusal c.args.t.numbers.now) z.lead.now z.cycle.now c.args.t.accepted (omega (arith, c.size.ensures, c.if-size-gt-MOST_LETTERS.false)))
    c.psl_holds.ensures)
