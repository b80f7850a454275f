-- No row is there.
use Rattle.rows.proofs.SignalLaw.{none_there}
use Rattle.rows.proofs.SignalRows.new.Goals as goal

pub invariant_of-result : goal.invariant_of-result
invariant_of-result c = record { told = none_there 32 }
