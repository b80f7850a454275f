-- The front that ends with an operand is shorter than its user's.
use Rattle.std.proofs.Common.{length}
use Rattle.psl_verdict.proofs.+formula_row.Given as goal

abbrev pub decreases-formula_row : goal.decreases-formula_row
decreases-formula_row l = length l.n.front.now
