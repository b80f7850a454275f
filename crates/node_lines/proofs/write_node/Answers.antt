-- Each refusal first; then the line written aside gives its length, and its bytes are copied into the lent list.
use native.Mathlib.Omega.{arith}
use mathlib.Core.Path.{refl, ap, ◌∙◌}
use lib.ListN.{replicate}
use lib.Seq.{sets}
use Rattle.node_lines.proofs.WriterLaw.{front_ends, front_is}
use Rattle.node_lines.proofs.NodeLaw.{no_room, line_written}
use Rattle.node_lines.proofs.write_node.Goals as goal

pub returns-then-out-n : goal.returns-then-out-n
returns-then-out-n c = let x = c.args.x in let w = c.put_front-n.ensures in
    let ends = front_ends c.args.no.0 x.kind x.left x.right (omega arith) (omega arith) (omega arith) (replicate 32 0) c.put_front-n.new.line c.put_front-n.result refl w.bytes w.ends in
    let both = no_room c.args.no.0 x.kind x.left x.right c.args.out.now (omega (arith, c.index.ensures, c.if-index-ge-MOST_NODES.false)) c.check_alone.result c.check_alone.ensures
    c.in_ok-check_alone.was (omega (arith, ends, c.if-out-n.true)) in
    record { value = both.0; out_after = both.1 }

pub returns : goal.returns
returns c = let x = c.args.x in let w = c.put_front-n.ensures in
    let ends = front_ends c.args.no.0 x.kind x.left x.right (omega arith) (omega arith) (omega arith) (replicate 32 0) c.put_front-n.new.line c.put_front-n.result refl w.bytes w.ends in
    let is = front_is c.args.no.0 x.kind x.left x.right (omega arith) (omega arith) (omega arith) (replicate 32 0) c.put_front-n.new.line c.put_front-n.result refl w.bytes w.ends in
    let both = line_written c.args.no.0 x.kind x.left x.right c.args.out.now (omega (arith, c.index.ensures, c.if-index-ge-MOST_NODES.false)) c.check_alone.result
    c.check_alone.ensures c.in_ok-check_alone.was c.put_front-n.result ends c.if-out-n.false (c.copy_front.ensures ∙ ap (sets c.args.out.now 0) is) in
    record { value = both.0; out_after = both.1 }
