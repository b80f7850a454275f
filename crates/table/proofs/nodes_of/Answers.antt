-- The threes that `as_chunks` cuts are the nodes.
use Rattle.table.proofs.NodeLaw.{nodes_chunks}
use Rattle.table.proofs.nodes_of.Goals as goal

pub returns : goal.returns
returns c = nodes_chunks c.args.t.now c.as_chunks.ensures.front
