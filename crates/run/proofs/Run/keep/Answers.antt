-- A byte is kept where there is room.
use mathlib.Core.Path.{refl}
use Rattle.answers.specs.Inner.{kept_bytes}
use Rattle.run.proofs.BoundsLaw.{pushed}
use Rattle.run.proofs.Run.keep.Goals as goal

pub returns : goal.returns
returns c = let t = c.try_push-full in
    record { stage = refl; number = refl; line = pushed (λ v. v.items) t.result kept_bytes c.args.b c.args.self.now.line t.new.self t.ensures.variant.0 t.ensures.ok t.ensures.err t.ensures.full; out = refl }
