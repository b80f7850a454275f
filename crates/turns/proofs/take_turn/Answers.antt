-- Nothing was read.
use Rattle.turns.proofs.TurnLaw.{moved_idle, on_ok}
use Rattle.turns.proofs.take_turn.Goals as goal

pub returns-in-Err : goal.returns-in-Err
returns-in-Err g c = on_ok c.unless_interrupted.result (moved_idle _ _ _ c.args.run.now c.requires c.in-Err.ensures.bytes)
