-- What a formula is on the empty trace.
use mathlib.Core.Logic.{inl, inr, ◌↔◌}
use mathlib.Core.List.{[]}
use lib.Dec.{T}
use Rattle.logic.specs.Trace.{letter_at}
use Rattle.logic.specs.Word.{over}
use Rattle.logic.proofs.TestLaw.{not_iff, and_iff}
use Rattle.logic.specs.Formula.{Formula, weak, strong, fnot, fand, next, until, abort}
use Rattle.logic.specs.Meaning.{Holds, HoldsOn}
use Rattle.logic.specs.Empty.{on_empty}
use Rattle.logic.proofs.OrderLaw.{always}

holds-over : (f : Formula) → Holds f (always over) ↔ T (on_empty f)
unfolding on_empty
holds-over (weak b) = (λ h. tt, λ h. inl (λ g. g))
holds-over (strong b) = (λ h. h.0, λ h. absurd h)
holds-over (fnot f) = not_iff (on_empty f) (holds-over f)
holds-over (fand f g) = and_iff (on_empty f) (on_empty g) (holds-over f) (holds-over g)
holds-over (next f) = (λ h. h.0, λ h. absurd h)
holds-over (until f g) = (λ h. h.1, λ h. absurd h)
holds-over (abort f b) = (λ h. elim h [ inl x ↦ (holds-over f).0 x | inr y ↦ absurd y.1 ], λ h. inl ((holds-over f).1 h))

pub holds-empty : (f : Formula) → HoldsOn f [] [] ↔ T (on_empty f)
unfolding letter_at
holds-empty f = holds-over f
