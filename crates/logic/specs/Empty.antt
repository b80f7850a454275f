-- A formula on the empty trace, decided by its shape.
use Rattle.std.specs.Prelude.{Bool, true, false, not, ◌&&◌}
use Rattle.logic.specs.Formula.{Formula, weak, strong, fnot, fand, next, until, abort}

unfoldable pub on_empty : Formula → Bool
on_empty (weak b) = true
on_empty (strong b) = false
on_empty (fnot f) = not (on_empty f)
on_empty (fand f g) = on_empty f && on_empty g
on_empty (next f) = false
on_empty (until f g) = false
on_empty (abort f b) = on_empty f
