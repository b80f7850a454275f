-- The front that ends with an operand is shorter than its user's.
use Rattle.std.proofs.Common.{length}
use Rattle.translate.proofs.+walk.Given as goal

abbrev pub decreases-walk : goal.decreases-walk
decreases-walk l = length l.n.front.now
