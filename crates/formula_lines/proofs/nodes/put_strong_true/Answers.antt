-- `true`, and a node over it.
use Rattle.formula_lines.specs.Inner.Writes.{leaf}
use Rattle.formula_lines.proofs.WritesLaw.{writes-over}
use Rattle.formula_lines.proofs.nodes.put_strong_true.Goals as goal

pub returns : goal.returns
returns c = writes-over 5 (leaf 0 0) c.put_leaf-n.ensures c.put_over.ensures
