-- The sort of a node of a table.
use Rattle.std.specs.Prelude.{ℕ, List, ◌<◌, ◌≤◌}
use Rattle.table.specs.Node.{count, kind_at}
use Rattle.psl.specs.Check.{boolean_kinds}

abbrev pub IsBooleanAt : List ℕ → ℕ → Type 0
IsBooleanAt t i = (i < count t) × (kind_at t i < boolean_kinds)

abbrev pub IsFormulaAt : List ℕ → ℕ → Type 0
IsFormulaAt t i = (i < count t) × (boolean_kinds ≤ kind_at t i)
