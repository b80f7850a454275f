use native.Mathlib.Omega.{arith}
use Rattle.logic.proofs.MomentsLaw.{letter_lead, letter_loop, letter_none}
use Rattle.trace.proofs.letter_at.Goals as goal

pub returns-then-at-lead : goal.returns-then-at-lead
returns-then-at-lead c = rw (letter_lead c.args.lead.now c.args.cycle.now c.args.m.0 c.if-at-lead.true)

pub returns-in-None : goal.returns-in-None
returns-in-None c = rw (letter_none c.args.lead.now c.args.cycle.now c.args.m.0 (omega arith) (omega (arith, c.in-None.ensures)))

pub returns-in-Some : goal.returns-in-Some
returns-in-Some c =
    let i = c.in-Some.ensures in
    rw (letter_loop c.args.lead.now c.args.cycle.now c.args.m.0 (omega arith) (omega (arith, i.0)), i.1)
