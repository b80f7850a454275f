-- The type of an accepted LTL table, as `src/` names it.
use Rattle.table.specs.declared.accepted.Table.{Table}
use Rattle.ltl.specs.declared.kind.Kind.{Kind}
use Rattle.ltl.specs.contracts.KindChecked.TheImpl.{ghosts as checked_ghosts}
use Rattle.ltl.specs.contracts.kind.KindKind.TheImpl.{ghosts}

abbrev pub LtlTable : Type 0
LtlTable = Table Kind checked_ghosts ghosts
