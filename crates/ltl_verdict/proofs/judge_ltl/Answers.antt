-- The letters, then what the accepted table says.
use Rattle.std.proofs.Common.{arith}
use Rattle.trace.proofs.JudgesLaw.{judged}
use Rattle.ltl_verdict.proofs.JudgesLaw.{ltl-long, ltl-empty, ltl_fine}
use Rattle.ltl_verdict.proofs.judge_ltl.Goals as goal

pub returns-then-letters-gt-MOST_LETTERS : goal.returns-then-letters-gt-MOST_LETTERS
returns-then-letters-gt-MOST_LETTERS c = let t = c.args.trace in
    ltl-long c.args.t.numbers.now t.lead.now t.cycle.now c.args.t.accepted (omega (arith, c.size-letters.ensures, c.if-letters-gt-MOST_LETTERS.true))

pub returns-then-letters-eq0 : goal.returns-then-letters-eq0
returns-then-letters-eq0 c = let t = c.args.trace in
    ltl-empty c.args.t.numbers.now t.lead.now t.cycle.now c.args.t.accepted (omega (arith, c.size-letters.ensures)) (omega (arith, c.size-letters.ensures))

pub returns : goal.returns
returns c = let t = c.args.trace in
    rw c.decided.ensures (judged c.ltl_holds.result
    (ltl_fine c.args.t.numbers.now t.lead.now t.cycle.now c.args.t.accepted (omega (arith, c.size-letters.ensures)) (omega (arith, c.size-letters.ensures)))
    c.ltl_holds.ensures)
