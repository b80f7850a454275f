-- The front up to node i passes the tests too, and stands for what node i does.
use mathlib.Core.Path.{ap, ◌∙◌}
use Prim.Native.Nat.{ℕ, ◌+◌}
use lib.ListN.{take}
use Rattle.psl.specs.Table.{boolean_of}
use Rattle.psl.proofs.FrontLaw.{front_passes, front-boolean, front-is_boolean}
use Rattle.psl.proofs.node.BooleanNode.new.Goals as goal

pub invariant_of-result : goal.invariant_of-result
invariant_of-result c = let t = c.args.t.now in
    let (inside, sort) = c.requires.sort in
    rw c.start.ensures record { passes = front_passes t c.requires.passes c.args.i.0 inside; sort = front-boolean t c.requires.passes c.args.i.0 inside c.requires.sort }

pub returns : goal.returns
returns c = let t = c.args.t.now in
    let (inside, sort) = c.requires.sort in (
      ap (λ (m : ℕ). take (m + 3) t) c.start.ensures,
      ap (λ (m : ℕ). boolean_of (take (m + 3) t)) c.start.ensures ∙ front-is_boolean t c.requires.passes c.args.i.0 inside,
    )
