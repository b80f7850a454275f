use Rattle.printing.proofs.PrintedLaw.{refused_put}
use Rattle.printing.proofs.put_refused.Goals as goal

pub returns : goal.returns
returns g c = let t = c.told-number.ensures in
    refused_put g.S.Sink.Put g.met.S.Sink.join c.args.line c.args.x c.put_text.ensures c.put_number.ensures c.put_byte.ensures
    (rw (c.from.ensures, t) at c.put_number-2.ensures) (rw t at c.put_place.ensures)
