-- One byte after another.
use mathlib.Core.Path.{refl, sym, subst, ◌∙◌}
use lib.ListN.{get_or}
use Prim.Native.Nat.{◌+◌}
use Rattle.run.specs.declared.Run.{Run}
use Rattle.run.proofs.StreamLaw.{Feeding, feeding_byte, feeding_line, feeding_over}
use Rattle.run.proofs.Run.feed.Goals as goal
use Rattle.run.proofs.Run.feed.Goals.{then-b-eq10+else-not-goes_on, else-b-eq10}

pub returns-then-not-goes_on : goal.returns-then-not-goes_on
returns-then-not-goes_on c =
    feeding_over c.loop-b.invariant c.loop-b-test.true (get_or c.args.block.now c.loop-b.b-index 0) refl c.end_line.new.self c.if-b-eq10.true c.end_line.ensures (sym c.goes_on.ensures ∙ c.if-not-goes_on.true)

pub loop-b-preserved : goal.loop-b-preserved
loop-b-preserved c = let block = c.args.block.now in let i = c.loop-b.b-index in let f = c.loop-b.invariant in let low = c.loop-b-test.true in
    elim c.if-b-eq10.branch [
      | then-b-eq10+else-not-goes_on w ↦ subst (λ (r : Run). Feeding block c.args.self.now r (i + 1)) (sym w.self-is)
          (feeding_line f low (get_or block i 0) refl w.end_line.new.self w.if-b-eq10.true w.end_line.ensures (sym w.goes_on.ensures ∙ w.if-not-goes_on.false))
      | else-b-eq10 w ↦ subst (λ (r : Run). Feeding block c.args.self.now r (i + 1)) (sym w.self-is)
          (feeding_byte f low (get_or block i 0) refl w.keep.new.self w.if-b-eq10.false w.keep.ensures)
    ]
