-- The numbers that are still to come, one less.
use Rattle.node_lines.proofs.WriterLaw.{place_more}
use Rattle.node_lines.proofs.put_places.Goals as goal

pub loop-n-preserved : goal.loop-n-preserved
loop-n-preserved g c = λ b p.
    c.loop-n.invariant b
    (place_more g.S.Sink.Put g.met.S.Sink.join c.args.numbers.now c.loop-n.n-index c.loop-n-test.true c.put_byte.ensures (rw c.from.ensures at c.put_number.ensures) b p)
