use Rattle.node_lines.proofs.WriterLaw.{places_used}
use Rattle.node_lines.proofs.places.Goals as goal

pub returns : goal.returns
returns c = rw (c.used.ensures, c.used-2.ensures) (places_used c.args.kind _ c.places-left.ensures)
