-- The kind of a node of an accepted table is one that there is.
use native.Mathlib.Omega.{arith}
use Rattle.std.proofs.Common.{◌≡◌, rules, ◌<◌}
use Rattle.table.specs.Node.{count, kind_at}
use Rattle.table.proofs.CheckLaw.{kind_in}
use Rattle.table.proofs.PlaceLaw.{known_ok}
use Rattle.table.proofs.accepted.Table.node.Goals as goal

pub unwrap-requires : goal.unwrap-requires
unwrap-requires g c = let t = c.args.self.numbers.now in
    let R = g.K.Kind.rules in
    let h : c.args.i.0 < count t = search rules in
    let e : c.from-n.result.kind ≡ kind_at t c.args.i.0 = search rules in
    known_ok R g.K.Kind.number _ _ c.from_number.ensures (omega (arith, e, kind_in R t (g.met.K.Checked.passes t c.args.self.accepted) c.args.i.0 h))
