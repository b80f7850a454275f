-- The front that ends with an operand is shorter than its user's.
use Rattle.std.proofs.Common.{length}
use Rattle.psl_verdict.proofs.+on_empty.Given as goal

abbrev pub decreases-on_empty : goal.decreases-on_empty
decreases-on_empty l = length l.n.front.now
