-- The input's end, or the bytes of a block.
use mathlib.Core.Path.{refl, ap, ◌∙◌}
use mathlib.Core.List.{List}
use Prim.Native.Nat.{ℕ}
use lib.Dec.{eqb}
use lib.ListN.{length}
use Rattle.run.specs.declared.Run.{Run}
use Rattle.std.proofs.lemmas.Bool.{both_ways}
use Rattle.run.proofs.StreamLaw.{anew, advance_on}
use Rattle.run.proofs.Run.advance.Goals as goal

pub returns : goal.returns
returns c = let s = c.args.self.now in
    let cleared : Run = record { stage = s.stage; number = s.number; line = s.line; out = c.clear.new.self } in
    (c.in_ok-accepts.ensures, advance_on (λ e. both_ways _ c.if-is_empty.false (c.is_empty.ensures ∙ ap (λ (l : List ℕ). eqb (length l) 0) e)) (λ read done a. anew s cleared refl refl refl a) c.feed.ensures)
