-- Three operations of the machine, each by its law.
use Rattle.rows.proofs.RowLaw.{tells-not, tells-and, tells-or}
use Rattle.rows.proofs.gate.Goals as goal

pub returns : goal.returns
returns c t x y z A B R few = tells-or few (A few) (tells-and few (B few) (tells-not few c.ranges.r.fits (R few)))
