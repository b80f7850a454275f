-- What a translation promises.
use Rattle.std.specs.Prelude.{ℕ, ◌<◌, ◌↔◌, List}
use Rattle.logic.specs.Trace.{size}
use Rattle.logic.specs.Formula.{Formula}
use Rattle.logic.specs.Meaning.{HoldsOn}
use Rattle.logic.specs.LtlMeaning.{LtlHoldsOn}
use Rattle.ltl.specs.Table.{tree_of}

-- On every trace that is not empty, finite or looping, of any letters and any length: the formula holds exactly when the table does.
abbrev pub Translates : Formula → List ℕ → Type 0
Translates f t = (lead loop : List ℕ) → 0 < size lead loop → HoldsOn f lead loop ↔ LtlHoldsOn (tree_of t) lead loop
