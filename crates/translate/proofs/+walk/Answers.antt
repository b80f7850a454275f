-- Each arm has room, and stores what the walk of its formula appends.
use Rattle.std.proofs.Common.{arith}
use Rattle.translate.proofs.StoredLaw.{room_part, room_after, walks_on}
use Rattle.translate.proofs.ArmLaw.{weight_weak, weight_strong, weight_not, weight_and, weight_next, weight_until, weight_abort, arm_weak, arm_strong, arm_not, arm_and, arm_next, arm_until, arm_abort}
use Rattle.translate.proofs.+walk.Goals as goal

-- weak
pub literal-requires : goal.literal-requires
literal-requires t c = room_part c.requires (omega (arith, weight_weak c.in-Weak.ensures.1))

pub returns-in-Weak : goal.returns-in-Weak
returns-in-Weak t c = arm_weak _ _ c.in-Weak.ensures.1 c.literal.ensures

-- strong
pub literal-requires-in-Strong : goal.literal-requires-in-Strong
literal-requires-in-Strong t c = room_part c.requires (omega (arith, weight_strong c.in-Strong.ensures.1))

pub returns-in-Strong : goal.returns-in-Strong
returns-in-Strong t c = arm_strong _ _ c.in-Strong.ensures.1 c.literal-in-Strong.ensures

-- not
pub walk-x-requires : goal.walk-x-requires
walk-x-requires t c = let f = c.in-Not.ensures in
    (omega (arith, f.0.shorter), room_part c.requires (omega (arith, weight_not f.1)))

pub unary-requires : goal.unary-requires
unary-requires t c = room_after c.requires c.walk-x.ensures (omega (arith, weight_not c.in-Not.ensures.1))

pub returns-in-Not : goal.returns-in-Not
returns-in-Not t c = arm_not _ _ c.in-Not.ensures.1 (rw (c.exchanged.ensures.0, c.exchanged.ensures.1) at c.walk-x.ensures) c.unary.ensures

-- and
pub walk-x-requires-in-And : goal.walk-x-requires-in-And
walk-x-requires-in-And t c = let f = c.in-And.ensures in
    (omega (arith, f.0.shorter), room_part c.requires (omega (arith, weight_and f.2)))

pub walk-y-requires : goal.walk-y-requires
walk-y-requires t c = let f = c.in-And.ensures in
    (omega (arith, f.1.shorter), room_after c.requires c.walk-x-in-And.ensures (omega (arith, weight_and f.2)))

pub binary-requires : goal.binary-requires
binary-requires t c = room_after c.requires (walks_on c.walk-x-in-And.ensures c.walk-y.ensures) (omega (arith, weight_and c.in-And.ensures.2))

pub returns-in-And : goal.returns-in-And
returns-in-And t c = arm_and _ _ c.in-And.ensures.2 c.walk-x-in-And.ensures c.walk-y.ensures c.binary.ensures

-- next
pub walk-x-requires-in-Next : goal.walk-x-requires-in-Next
walk-x-requires-in-Next t c = let f = c.in-Next.ensures in
    (omega (arith, f.0.shorter), room_part c.requires (omega (arith, weight_next f.1)))

pub unary-y-requires : goal.unary-y-requires
unary-y-requires t c = room_after c.requires c.walk-x-in-Next.ensures (omega (arith, weight_next c.in-Next.ensures.1))

pub gate-requires : goal.gate-requires
gate-requires t c =
    (c.unary-y.ensures.last, room_after c.requires (walks_on c.walk-x-in-Next.ensures c.unary-y.ensures) (omega (arith, weight_next c.in-Next.ensures.1)))

pub returns-in-Next : goal.returns-in-Next
returns-in-Next t c = arm_next _ _ c.in-Next.ensures.1 c.walk-x-in-Next.ensures c.unary-y.ensures c.gate.ensures

-- until
pub walk-x-requires-in-Until : goal.walk-x-requires-in-Until
walk-x-requires-in-Until t c = let f = c.in-Until.ensures in
    (omega (arith, f.0.shorter), room_part c.requires (omega (arith, weight_until f.2)))

pub walk-y-requires-in-Until : goal.walk-y-requires-in-Until
walk-y-requires-in-Until t c = let f = c.in-Until.ensures in
    (omega (arith, f.1.shorter), room_after c.requires c.walk-x-in-Until.ensures (omega (arith, weight_until f.2)))

pub binary-requires-in-Until : goal.binary-requires-in-Until
binary-requires-in-Until t c =
    room_after c.requires (walks_on c.walk-x-in-Until.ensures c.walk-y-in-Until.ensures) (omega (arith, weight_until c.in-Until.ensures.2))

pub returns-in-Until : goal.returns-in-Until
returns-in-Until t c = arm_until _ _ c.in-Until.ensures.2 c.walk-x-in-Until.ensures c.walk-y-in-Until.ensures c.binary-in-Until.ensures

-- abort
pub literal-x-requires : goal.literal-x-requires
literal-x-requires t c = room_part c.requires (omega (arith, weight_abort c.in-Abort.ensures.2))

pub walk-requires : goal.walk-requires
walk-requires t c = let f = c.in-Abort.ensures in
    (omega (arith, f.0.shorter), room_after c.requires c.literal-x.ensures (omega (arith, weight_abort f.2)))

pub returns-in-Abort : goal.returns-in-Abort
returns-in-Abort t c = arm_abort _ _ c.in-Abort.ensures.2 c.literal-x.ensures c.walk.ensures
