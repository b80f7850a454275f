-- What the inner functions of the PSL verdict promise: the row of a part of a table.
use Rattle.std.specs.Prelude.{ℕ}
use Rattle.trace.specs.declared.TraceView.{TraceView}
use Rattle.logic.specs.Formula.{Formula}
use Rattle.logic.specs.Tree.{Ltl}
use Rattle.logic.specs.Translation.{translated}
use Rattle.rows.specs.Inner.Rows.{TellsOn}

-- Rows a and r tell trees x and y, for accept and reject.
pub record Marked (t : TraceView) (a r : ℕ) (x y : Ltl) : Type 0 where
  pub accept : TellsOn t a x
  pub reject : TellsOn t r y

-- Row w tells the translation of f, whatever trees rows a and r tell for accept and reject.
abbrev pub TellsFormula : TraceView → Formula → ℕ → ℕ → ℕ → Type 0
TellsFormula t f a r w = (x y : Ltl) → Marked t a r x y → TellsOn t w (translated f x y)
