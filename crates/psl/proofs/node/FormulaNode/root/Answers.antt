-- An accepted table passes the tests of nodes, and its last node is a formula.
use native.Mathlib.Omega.{arith}
use Rattle.psl.proofs.CheckLaw.{psl-table}
use Rattle.psl.proofs.AcceptedLaw.{some-node, root-formula}
use Rattle.psl.proofs.node.FormulaNode.root.Goals as goal

pub invariant_of-result : goal.invariant_of-result
invariant_of-result c = let t = c.args.table in
    record { passes = psl-table t.numbers.now t.accepted; sort = (omega (arith, some-node t.numbers.now t.accepted), root-formula t.numbers.now t.accepted) }
