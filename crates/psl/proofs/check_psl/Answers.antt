-- `check_psl` answers for the length, then for the nodes.
use mathlib.Core.Path.{◌≡◌, sym, ap}
use mathlib.Core.Bool.{true, not}
use lib.ListN.{length}
use Rattle.table.specs.Check.{length_fits}
use Rattle.table.specs.Answer.{checked}
use Rattle.table.proofs.FirstLaw.{length-passed, length_failed}
use Rattle.psl.specs.Check.{psl_rules}
use Rattle.psl.proofs.CheckLaw.{psl-first}
use Rattle.psl.proofs.check_psl.Goals as goal
use Rattle.psl.proofs.check_psl.Goals.{Else-not-length_fits}

-- Past the test of the length.
right_length : (e : Else-not-length_fits) → length_fits psl_rules.most (length e.args.t.now) ≡ true
right_length e = length-passed psl_rules e.args.t.now e.length_fits.ensures (ap not e.if-not-length_fits.false)

pub returns-then-not-length_fits : goal.returns-then-not-length_fits
returns-then-not-length_fits c = let t = c.args.t.now in
    sym (ap checked (psl-first t _ (length_failed psl_rules t c.length_fits.ensures (ap not c.if-not-length_fits.true))))
