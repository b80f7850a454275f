-- The kind of a formula says what it is made of.
use Rattle.psl.proofs.NodesLaw.{of-weak, of-strong, of-not, of-and, of-next, of-until, of-abort}
use Rattle.psl.proofs.node.FormulaNode.parts.Goals as goal

pub new-requires-clause-sort : goal.new-requires-clause-sort
new-requires-clause-sort c = (of-weak c.args.self.front.now c.args.self.passes c.last_node-node.result c.last_node-node.ensures c.in-Weak.is).0

pub returns-in-Weak : goal.returns-in-Weak
returns-in-Weak c = (of-weak c.args.self.front.now c.args.self.passes c.last_node-node.result c.last_node-node.ensures c.in-Weak.is).1 _ _ c.new.ensures

pub new-requires-in-Strong-clause-sort : goal.new-requires-in-Strong-clause-sort
new-requires-in-Strong-clause-sort c = (of-strong c.args.self.front.now c.args.self.passes c.last_node-node.result c.last_node-node.ensures c.in-Strong.is).0

pub returns-in-Strong : goal.returns-in-Strong
returns-in-Strong c = (of-strong c.args.self.front.now c.args.self.passes c.last_node-node.result c.last_node-node.ensures c.in-Strong.is).1 _ _ c.new-in-Strong.ensures

pub new-requires-in-Not-clause-sort : goal.new-requires-in-Not-clause-sort
new-requires-in-Not-clause-sort c = (of-not c.args.self.front.now c.args.self.passes c.last_node-node.result c.last_node-node.ensures c.in-Not.is).0

pub returns-in-Not : goal.returns-in-Not
returns-in-Not c = (of-not c.args.self.front.now c.args.self.passes c.last_node-node.result c.last_node-node.ensures c.in-Not.is).1 _ _ c.new-in-Not.ensures

pub new-requires-in-And-clause-sort : goal.new-requires-in-And-clause-sort
new-requires-in-And-clause-sort c = (of-and c.args.self.front.now c.args.self.passes c.last_node-node.result c.last_node-node.ensures c.in-And.is).0

pub new-requires-in-And-2-clause-sort : goal.new-requires-in-And-2-clause-sort
new-requires-in-And-2-clause-sort c = (of-and c.args.self.front.now c.args.self.passes c.last_node-node.result c.last_node-node.ensures c.in-And.is).1

pub returns-in-And : goal.returns-in-And
returns-in-And c = (of-and c.args.self.front.now c.args.self.passes c.last_node-node.result c.last_node-node.ensures c.in-And.is).2 _ _ _ _ c.new-in-And.ensures c.new-in-And-2.ensures

pub new-requires-in-Next-clause-sort : goal.new-requires-in-Next-clause-sort
new-requires-in-Next-clause-sort c = (of-next c.args.self.front.now c.args.self.passes c.last_node-node.result c.last_node-node.ensures c.in-Next.is).0

pub returns-in-Next : goal.returns-in-Next
returns-in-Next c = (of-next c.args.self.front.now c.args.self.passes c.last_node-node.result c.last_node-node.ensures c.in-Next.is).1 _ _ c.new-in-Next.ensures

pub new-requires-in-Until-clause-sort : goal.new-requires-in-Until-clause-sort
new-requires-in-Until-clause-sort c = (of-until c.args.self.front.now c.args.self.passes c.last_node-node.result c.last_node-node.ensures c.in-Until.is).0

pub new-requires-in-Until-2-clause-sort : goal.new-requires-in-Until-2-clause-sort
new-requires-in-Until-2-clause-sort c = (of-until c.args.self.front.now c.args.self.passes c.last_node-node.result c.last_node-node.ensures c.in-Until.is).1

pub returns-in-Until : goal.returns-in-Until
returns-in-Until c = (of-until c.args.self.front.now c.args.self.passes c.last_node-node.result c.last_node-node.ensures c.in-Until.is).2 _ _ _ _ c.new-in-Until.ensures c.new-in-Until-2.ensures

pub new-requires-in-Abort-clause-sort : goal.new-requires-in-Abort-clause-sort
new-requires-in-Abort-clause-sort c = (of-abort c.args.self.front.now c.args.self.passes c.last_node-node.result c.last_node-node.ensures c.in-Abort.is).0

pub new-requires-in-Abort-2-clause-sort : goal.new-requires-in-Abort-2-clause-sort
new-requires-in-Abort-2-clause-sort c = (of-abort c.args.self.front.now c.args.self.passes c.last_node-node.result c.last_node-node.ensures c.in-Abort.is).1

pub returns-in-Abort : goal.returns-in-Abort
returns-in-Abort c = (of-abort c.args.self.front.now c.args.self.passes c.last_node-node.result c.last_node-node.ensures c.in-Abort.is).2 _ _ _ _ c.new-in-Abort.ensures c.new-in-Abort-2.ensures
