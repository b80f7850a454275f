-- The step is the carry of a sum.
use Rattle.rows.proofs.CarryLaw.{swept}
use Rattle.rows.proofs.sweep.Goals as goal

pub returns : goal.returns
returns c = swept c.args.f c.args.g c.args.carry
