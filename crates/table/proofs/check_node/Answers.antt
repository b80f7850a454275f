-- `check_node` answers for the kind, then for the places.
use Rattle.table.proofs.PlaceLaw.{no_kind, by_places}
use Rattle.table.proofs.check_node.Goals as goal

pub returns-in-Ok : goal.returns-in-Ok
returns-in-Ok g c = let a = c.args in
    by_places g.K.Kind.rules g.K.Kind.number a.n.kind a.i.0 a.n.left a.n.right a.booleans.0 a.booleans.1 c.from_number.ensures c.in-Ok.is c.places.ensures c.check_places.ensures

pub returns-in-Err : goal.returns-in-Err
returns-in-Err g c = let a = c.args in
    no_kind g.K.Kind.rules g.K.Kind.number a.n.kind a.i.0 a.n.left a.n.right a.booleans.0 a.booleans.1 c.from_number.ensures c.in-Err.is c.refusals.ensures
