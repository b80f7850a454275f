-- The meaning of an LTL tree at a moment of a trace: on a finite trace next and until are strong.
use Rattle.std.specs.Prelude.{◌⊎◌, List, ℕ, suc, ◌≤◌, ◌<◌, T}
use Rattle.std.proofs.Math.Option.{Option, none, some}
use Rattle.logic.specs.Letter.{bit}
use Rattle.logic.specs.Trace.{Trace, letter_at, InTrace}
use Rattle.logic.specs.Tree.{Ltl, ltrue, lvar, lnot, land, lor, lnext, luntil}

-- Signal k holds in the letter of a moment.
abbrev pub Signal : ℕ → Option ℕ → Type 0
Signal k none = ⊥
Signal k (some x) = T (bit x k)

abbrev pub LtlHolds : Ltl → Trace → ℕ → Type 0
LtlHolds ltrue t i = Unit {0}
LtlHolds (lvar k) t i = Signal k (t i)
LtlHolds (lnot f) t i = LtlHolds f t i → ⊥
LtlHolds (land f g) t i = LtlHolds f t i × LtlHolds g t i
LtlHolds (lor f g) t i = LtlHolds f t i ⊎ LtlHolds g t i
LtlHolds (lnext f) t i = InTrace t (suc i) × LtlHolds f t (suc i)
LtlHolds (luntil f g) t i =
    (k : ℕ) × (i ≤ k) × InTrace t k × LtlHolds g t k × ((j : ℕ) → i ≤ j → j < k → LtlHolds f t j)

-- A tree holds on a trace, given by its lead-in and loop, when it holds at moment 0.
abbrev pub LtlHoldsOn : Ltl → List ℕ → List ℕ → Type 0
LtlHoldsOn x lead loop = LtlHolds x (letter_at lead loop) 0
