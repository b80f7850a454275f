-- An accepted table has a node, and its numbers of nodes have 16 bits.
use native.Mathlib.Omega.{arith}
use borrow.Author.Tests.{leb-true}
use Rattle.table.proofs.CheckLaw.{table-sized}
use Rattle.table.proofs.accepted.Table.root.Goals as goal

pub overflow_sub-nodes : goal.overflow_sub-nodes
overflow_sub-nodes g c = let t = c.args.self.numbers.now in
    omega (arith, (table-sized g.K.Kind.rules t (g.met.K.Checked.passes t c.args.self.accepted)).some, c.nodes.ensures)

pub returns : goal.returns
returns g c = let t = c.args.self.numbers.now in
    omega (arith, (table-sized g.K.Kind.rules t (g.met.K.Checked.passes t c.args.self.accepted)).low, leb-true _ _ g.met.K.Checked.few, c.nodes.ensures)
