-- From the start on, each turn that goes on is one more, and the last one ends the run.
use mathlib.Core.Path.{ap, sym, ◌∙◌}
use Rattle.run.specs.Inner.{goes}
use Rattle.turns.proofs.TurnLaw.{moving_start, moving_turn, moved_whole}
use Rattle.turns.proofs.take_turns.Goals as goal

pub loop-init : goal.loop-init
loop-init g c = (ap goes c.new-run.ensures.0, moving_start _ _ c.new-run.result c.new-run.ensures)

pub returns-then-not-goes_on : goal.returns-then-not-goes_on
returns-then-not-goes_on g c = moved_whole c.loop.invariant.1 c.in_ok-take_turn.ensures (sym c.goes_on.ensures ∙ c.if-not-goes_on.true)

pub loop-preserved : goal.loop-preserved
loop-preserved g c = let m = sym c.goes_on.ensures ∙ c.if-not-goes_on.false in (m, moving_turn c.loop.invariant.1 c.in_ok-take_turn.ensures m)
