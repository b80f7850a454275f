-- The kind of a Boolean says what it is made of.
use Rattle.psl.proofs.NodesLaw.{of-true, of-var, of-bnot, of-band}
use Rattle.psl.proofs.node.BooleanNode.parts.Goals as goal

pub returns-in-True : goal.returns-in-True
returns-in-True c = of-true c.args.self.front.now c.args.self.passes c.last_node-node.result c.last_node-node.ensures c.in-True.is

pub returns-in-Var : goal.returns-in-Var
returns-in-Var c = of-var c.args.self.front.now c.args.self.passes c.last_node-node.result c.last_node-node.ensures c.in-Var.is

pub new-requires-clause-sort : goal.new-requires-clause-sort
new-requires-clause-sort c = (of-bnot c.args.self.front.now c.args.self.passes c.last_node-node.result c.last_node-node.ensures c.in-Bnot.is).0

pub returns-in-Bnot : goal.returns-in-Bnot
returns-in-Bnot c = (of-bnot c.args.self.front.now c.args.self.passes c.last_node-node.result c.last_node-node.ensures c.in-Bnot.is).1 _ _ c.new.ensures

pub new-requires-in-Band-clause-sort : goal.new-requires-in-Band-clause-sort
new-requires-in-Band-clause-sort c = (of-band c.args.self.front.now c.args.self.passes c.last_node-node.result c.last_node-node.ensures c.in-Band.is).0

pub new-requires-in-Band-2-clause-sort : goal.new-requires-in-Band-2-clause-sort
new-requires-in-Band-2-clause-sort c = (of-band c.args.self.front.now c.args.self.passes c.last_node-node.result c.last_node-node.ensures c.in-Band.is).1

pub returns-in-Band : goal.returns-in-Band
returns-in-Band c = (of-band c.args.self.front.now c.args.self.passes c.last_node-node.result c.last_node-node.ensures c.in-Band.is).2 _ _ _ _ c.new-in-Band.ensures c.new-in-Band-2.ensures
