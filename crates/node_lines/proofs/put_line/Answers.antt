-- A part after a part.
use mathlib.Core.Path.{sym, subst}
use mathlib.Core.List.{List}
use Prim.Native.Nat.{ℕ}
use Rattle.node_lines.proofs.WriterLaw.{line_bytes}
use Rattle.node_lines.proofs.put_line.Goals as goal

pub returns : goal.returns
returns g c =
    let join = g.met.S.Sink.join in
    let x = c.args.x in
    let places = rw c.spelled-places.ensures.places at c.put_places.ensures in
    let word = rw c.spelled-places.ensures.word at c.put_text.ensures in
    let number = rw c.from.ensures at c.put_number.ensures in
    subst (λ (w : List ℕ). g.S.Sink.Put c.args.out.now w c.put_places.new.out) (sym (line_bytes c.args.no.0 x.kind x.left x.right))
    (join _ _ _ _ _ c.put_byte.ensures (join _ _ _ _ _ number (join _ _ _ _ _ c.put_byte-2.ensures (join _ _ _ _ _ word places))))
