use mathlib.Core.Path.{◌∙◌}
use Prim.Native.Nat.{◌<◌}
use native.Mathlib.Omega.{arith}
use lib.ListN.{length, length-set}
use Rattle.std.proofs.lemmas.List.{get_or_default}
use Rattle.text.proofs.CopyLaw.{copied_more, copied_all}
use Rattle.brancadol.proofs.copy_letters.Goals as goal

pub loop-i-preserved : goal.loop-i-preserved
loop-i-preserved c = let part = c.args.part.now in
    let within : c.loop-i.i < length part = omega (arith, c.loop-i-test.true, c.min-end.ensures) in (
      length-set c.loop-i.out c.loop-i.i _ ∙ c.loop-i.invariant.0,
      copied_more part c.args.out.now _ c.loop-i.i _ within (get_or_default part c.loop-i.i 0 _ within) c.loop-i.invariant.1,
    )

pub returns : goal.returns
returns c = copied_all c.args.part.now c.args.out.now _ c.loop-i.i (omega (arith, c.loop-i-test.false, c.min-end.ensures)) c.loop-i.invariant.1
