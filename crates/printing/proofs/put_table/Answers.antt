-- The head, then a line a node.
use native.Mathlib.Omega.{arith}
use mathlib.Core.Path.{◌≡◌, subst}
use Prim.Native.Nat.{ℕ}
use Rattle.table.specs.Node.{Node, node}
use Rattle.table.proofs.NodeLaw.{node_read}
use Rattle.node_lines.specs.Spelling.{node_line}
use Rattle.printing.proofs.PrintedLaw.{Printed, head_put, node_put, all_put, text_of_numbers}
use Rattle.printing.proofs.put_table.Goals as goal

pub loop-i-init : goal.loop-i-init
loop-i-init g c =
    head_put g.S.Sink.Put g.met.S.Sink.join c.args.t.now c.put_text.ensures
    (rw c.nodes_of-nodes.ensures.nodes at c.put_number.ensures) c.put_text-2.ensures

pub loop-i-preserved : goal.loop-i-preserved
loop-i-preserved g c = let x = c.from.result in let t = c.args.t.now in let i = c.loop-i.i in let n = c.nodes_of-nodes.ensures in
    let own : c.from_index.result.0 ≡ i = omega (arith, c.from_index.ensures, n.nodes, c.if-nodes-gt-MOST_NODES.false, c.loop-i-test.true) in
    let read = node_read n i c.loop-i-test.true c.from.ensures in
    node_put g.S.Sink.Put g.met.S.Sink.join t i c.loop-i.invariant (subst (λ (y : Node). g.S.Sink.Put c.loop-i.out (node_line i y) c.put_line.new.out) read
    (subst (λ (k : ℕ). g.S.Sink.Put c.loop-i.out (node_line k (node x.kind x.left x.right)) c.put_line.new.out) own c.put_line.ensures))

pub returns : goal.returns
returns g c =
    let n = c.nodes_of-nodes.ensures.nodes in
    record {
      table = λ _. all_put g.S.Sink.Put g.met.S.Sink.join c.args.t.now (subst (λ (i : ℕ). Printed g.S.Sink.Put c.args.t.now c.args.out.now i c.loop-i.out) (omega (arith, n, c.loop-i.auto.i-end, c.loop-i-test.false)) c.loop-i.invariant);
      none = λ h. absurd (omega (arith, n, c.if-nodes-gt-MOST_NODES.false));
      short = λ h. text_of_numbers c.args.t.now (λ i. omega (arith, c.type_inv.t i)) h;
    }
