-- What each node of a PSL table stands for.
use Rattle.std.specs.Prelude.{ℕ, List}
use Rattle.table.specs.Node.{value_at}
use Rattle.logic.specs.Formula.{BoolExpr, btrue, Formula}
use Rattle.psl.specs.Table.{Part, boolean, as_boolean, as_formula, part_of}

unfoldable pub part_at : List ℕ → ℕ → Part
part_at t i = value_at (boolean btrue) part_of t i

abbrev pub boolean_at : List ℕ → ℕ → BoolExpr
boolean_at t i = as_boolean (part_at t i)

abbrev pub formula_at : List ℕ → ℕ → Formula
formula_at t i = as_formula (part_at t i)
