-- The loop keeps: the word's bytes so far stand.
use native.Mathlib.Omega.{arith}
use mathlib.Core.Path.{refl, sym, ◌∙◌}
use Rattle.text.proofs.ScanLaw.{begun_more, begun-part, is_byte, not_byte}
use Rattle.text.proofs.scan.Cursor.expect.Goals as goal

pub returns-then-ne-clause-read : goal.returns-then-ne-clause-read
returns-then-ne-clause-read c =
    let a = c.loop-i.invariant in
    (refl, begun-part a _ c.loop-i-test.true refl (λ e. not_byte c.byte.result _ c.if-ne.ensures (c.byte.ensures ∙ e)), λ h. omega (arith, a.room))

pub loop-i-preserved : goal.loop-i-preserved
loop-i-preserved c = begun_more c.loop-i.invariant _ c.loop-i-test.true refl (sym c.byte.ensures ∙ is_byte c.byte.result _ c.if-ne.ensures)
