use Rattle.printing.proofs.PrintedLaw.{trace_put}
use Rattle.printing.proofs.put_trace.Goals as goal

pub returns : goal.returns
returns g c = let x = c.args in
    trace_put g.S.Sink.Put g.met.S.Sink.join x.trace x.psl x.ltl c.put_text.ensures c.put_number.ensures c.put_text-2.ensures (rw c.word.ensures at c.put_text-3.ensures)
    c.put_text-4.ensures (rw c.word-2.ensures at c.put_text-5.ensures) c.put_text-6.ensures
