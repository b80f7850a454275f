-- One node more.
use Rattle.psl.specs.Kind.{number}
use Rattle.formula_lines.proofs.WritesLaw.{writes-one}
use Rattle.formula_lines.proofs.nodes.put_leaf.Goals as goal

pub returns : goal.returns
returns c = writes-one (number c.args.kind) c.args.value 0 c.put_node.ensures.count c.put_node.ensures.list
