-- A place, behind a space; or none.
use mathlib.Core.Path.{sym, subst}
use Rattle.std.specs.Prelude.{Option as Maybe}
use Prim.Native.Nat.{ℕ}
use Rattle.printing.proofs.PrintedLaw.{place_put, end_of}
use Rattle.printing.proofs.put_place.Goals as goal

pub returns : goal.returns
returns g c =
    subst (λ (o : Maybe ℕ). g.S.Sink.Put c.args.out.now (end_of o) c.put_text-2.new.self) (sym c.in-Some.is)
    (place_put g.S.Sink.Put g.met.S.Sink.join c.in-Some.p c.put_byte.ensures c.put_number.ensures c.put_text-2.ensures)
