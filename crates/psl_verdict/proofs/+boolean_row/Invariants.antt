-- The front that ends with an operand is shorter than its user's.
use Rattle.std.proofs.Common.{length}
use Rattle.psl_verdict.proofs.+boolean_row.Given as goal

abbrev pub decreases-boolean_row : goal.decreases-boolean_row
decreases-boolean_row l = length l.n.front.now
