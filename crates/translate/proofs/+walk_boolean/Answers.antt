-- Each arm has room, and stores what the walk of its Boolean appends.
use Rattle.std.proofs.Common.{arith}
use Rattle.translate.proofs.StoredLaw.{room_part, room_after, walks_on}
use Rattle.translate.proofs.ArmLaw.{weight_true, weight_var, weight_bnot, weight_band, arm_true, arm_var, arm_bnot, arm_band}
use Rattle.translate.proofs.+walk_boolean.Goals as goal

-- true
pub leaf-requires : goal.leaf-requires
leaf-requires t c = room_part c.requires (omega (arith, weight_true c.in-True.ensures))

pub returns-in-True : goal.returns-in-True
returns-in-True t c = arm_true c.in-True.ensures c.leaf.ensures

-- var
pub leaf-requires-in-Var : goal.leaf-requires-in-Var
leaf-requires-in-Var t c = room_part c.requires (omega (arith, weight_var c.in-Var.ensures.1))

pub returns-in-Var : goal.returns-in-Var
returns-in-Var t c = arm_var c.in-Var.ensures.1 c.leaf-in-Var.ensures

-- bnot
pub walk_boolean-x-requires : goal.walk_boolean-x-requires
walk_boolean-x-requires t c = let f = c.in-Bnot.ensures in
    (omega (arith, f.0.shorter), room_part c.requires (omega (arith, weight_bnot f.1)))

pub unary-requires : goal.unary-requires
unary-requires t c = room_after c.requires c.walk_boolean-x.ensures (omega (arith, weight_bnot c.in-Bnot.ensures.1))

pub returns-in-Bnot : goal.returns-in-Bnot
returns-in-Bnot t c = arm_bnot c.in-Bnot.ensures.1 c.walk_boolean-x.ensures c.unary.ensures

-- band
pub walk_boolean-x-requires-in-Band : goal.walk_boolean-x-requires-in-Band
walk_boolean-x-requires-in-Band t c = let f = c.in-Band.ensures in
    (omega (arith, f.0.shorter), room_part c.requires (omega (arith, weight_band f.2)))

pub walk_boolean-y-requires : goal.walk_boolean-y-requires
walk_boolean-y-requires t c = let f = c.in-Band.ensures in
    (omega (arith, f.1.shorter), room_after c.requires c.walk_boolean-x-in-Band.ensures (omega (arith, weight_band f.2)))

pub binary-requires : goal.binary-requires
binary-requires t c =
    room_after c.requires (walks_on c.walk_boolean-x-in-Band.ensures c.walk_boolean-y.ensures) (omega (arith, weight_band c.in-Band.ensures.2))

pub returns-in-Band : goal.returns-in-Band
returns-in-Band t c = arm_band c.in-Band.ensures.2 c.walk_boolean-x-in-Band.ensures c.walk_boolean-y.ensures c.binary.ensures
