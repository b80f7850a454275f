-- No accepted table has more nodes than the larger array.
use Rattle.std.proofs.Common.{arith}
use Rattle.ltl.proofs.AcceptedLaw.{most-nodes}
use Rattle.ltl_verdict.proofs.ltl_holds.Goals as goal

pub holds_within-requires-else-nodes-le-FEW_NODES : goal.holds_within-requires-else-nodes-le-FEW_NODES
holds_within-requires-else-nodes-le-FEW_NODES c = (c.requires, most-nodes c.args.t.numbers.now c.args.t.accepted, omega arith)
