-- One byte after another.
use Rattle.run.proofs.StreamLaw.{Feeding}
use Rattle.run.proofs.Run.feed.Given as goal

abbrev pub invariant-loop-b : goal.invariant-loop-b
invariant-loop-b l = Feeding l.block l.initial.self l.self l.b-index
