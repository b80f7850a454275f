-- The front that ends with an operand is shorter than its user's.
use Rattle.std.proofs.Common.{length}
use Rattle.translate.proofs.+walk_boolean.Given as goal

abbrev pub decreases-walk_boolean : goal.decreases-walk_boolean
decreases-walk_boolean l = length l.n.front.now
