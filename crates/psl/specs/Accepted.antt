-- The type of an accepted PSL table, as `src/` names it.
use Rattle.table.specs.declared.accepted.Table.{Table}
use Rattle.psl.specs.declared.kind.Kind.{Kind}
use Rattle.psl.specs.contracts.KindChecked.TheImpl.{ghosts as checked_ghosts}
use Rattle.psl.specs.contracts.kind.KindKind.TheImpl.{ghosts}

abbrev pub PslTable : Type 0
PslTable = Table Kind checked_ghosts ghosts
