-- `check_ltl` answers for the length, then for the lowest node that is refused.
use mathlib.Core.Path.{◌≡◌, sym, ap, ◌∙◌}
use mathlib.Core.Bool.{true, not}
use Prim.Native.Nat.{ℕ}
use native.Mathlib.Omega.{arith}
use lib.ListN.{length}
use Rattle.std.proofs.Common.{rules}
use borrow.Author.Tests.{not-true, not-false}
use Rattle.table.specs.Answer.{checked}
use Rattle.table.specs.Node.{node_at}
use Rattle.table.specs.Check.{length_fits, refusal_at}
use Rattle.table.specs.Inner.Place.{node_low}
use Rattle.table.proofs.NodeLaw.{node_read}
use Rattle.table.proofs.CheckLaw.{refused-node, refused_none, lowest-zero, lowest-next}
use Rattle.table.proofs.FirstLaw.{length-passed, length_failed, node_passed, node_failed}
use Rattle.ltl.specs.Check.{ltl_rules}
use Rattle.ltl.proofs.check_ltl.Goals as goal
use Rattle.ltl.proofs.check_ltl.Goals.{Else-not-length_fits, After-low_node}

-- Past the test of the length.
right_length : (e : Else-not-length_fits) → length_fits ltl_rules.most (length e.args.t.now) ≡ true
right_length e = length-passed ltl_rules e.args.t.now e.length_fits.ensures (ap not e.if-not-length_fits.false)

-- The tests of the node that was read are those of node i.
low : (l : After-low_node) → l.low_node.result ≡ node_low ltl_rules l.loop-i.i (node_at l.args.t.now l.loop-i.i)
low l =
    let i = l.loop-i.i in
    let own : l.from_index-own.result.0 ≡ i = search rules in
    l.low_node.ensures
    ∙ ap (node_low ltl_rules _) (node_read l.nodes_of-x-items.ensures i (omega arith) l.from.ensures)
    ∙ ap (λ (m : ℕ). node_low ltl_rules m (node_at l.args.t.now i)) own

pub returns-then-not-length_fits : goal.returns-then-not-length_fits
returns-then-not-length_fits c = sym (ap checked (length_failed ltl_rules c.args.t.now c.length_fits.ensures (ap not c.if-not-length_fits.true)))

pub loop-i-init : goal.loop-i-init
loop-i-init c = lowest-zero _

pub returns-then-not-low_node : goal.returns-then-not-low_node
returns-then-not-low_node c = let t = c.args.t.now in
    let i = c.loop-i.i in
    let own : c.from_index-own.result.0 ≡ i = search rules in
    refused-node ltl_rules t (right_length (goal.at.returns-then-not-low_node c).Else-not-length_fits) i c.refused_at.result (omega arith) c.loop-i.invariant
    (node_failed ltl_rules t i (sym (low (goal.at.returns-then-not-low_node c).After-low_node) ∙ not-true _ (ap not c.if-not-low_node.true)))
    (rw own at c.refused_at.ensures)

pub loop-i-preserved : goal.loop-i-preserved
loop-i-preserved c = let t = c.args.t.now in
    lowest-next (refusal_at ltl_rules t) c.loop-i.i c.loop-i.invariant
    (node_passed ltl_rules t c.loop-i.i (sym (low (goal.at.loop-i-preserved c).After-low_node) ∙ not-false _ (ap not c.if-not-low_node.false)))

pub returns : goal.returns
returns c = let t = c.args.t.now in
    sym (ap checked (refused_none ltl_rules t (right_length (goal.at.returns c).Else-not-length_fits) c.loop-i.i (omega arith) c.loop-i.invariant))
