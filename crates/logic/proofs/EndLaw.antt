-- The ends of a word: at its first letter weak is strong; at its last next fails, and until is its second operand.
use Prim.Native.Nat.{ℕ, zero, suc}
use mathlib.Core.Path.{subst, sym}
use mathlib.Core.Logic.{◌↔◌, inl, inr}
use native.Mathlib.Omega.{arith}
use Rattle.logic.specs.Word.{Word, InWord, suffix}
use Rattle.logic.specs.Formula.{BoolExpr, Formula, weak, strong, next, until}
use Rattle.logic.specs.Meaning.{Holds}
use Rattle.logic.proofs.WordLaw.{suffix-zero}

pub weak_strong : (b : BoolExpr) (w : Word) → InWord w 0 → Holds (weak b) w ↔ Holds (strong b) w
weak_strong b w i = (λ h. elim h [ inl x ↦ absurd (x i) | inr y ↦ (i, y) ], λ h. inr h.1)

abbrev Last : Word → Type 0
Last w = (k : ℕ) → InWord w (suc k) → ⊥

pub next_last : (f : Formula) (w : Word) → Last w → Holds (next f) w → ⊥
next_last f w l h = l 0 h.0

pub until_last : (f g : Formula) (w : Word) → Last w → Holds (until f g) w ↔ (InWord w 0 × Holds g w)
until_last f g w l = (λ h. go h.0 h.1 h.2, λ h. (0, h.0, subst (Holds g) (sym (suffix-zero w)) h.1, λ j u. absurd (omega arith)))
  where
    go : (k : ℕ) → InWord w k → Holds g (suffix k w) → InWord w 0 × Holds g w
    go zero i h = (i, subst (Holds g) (suffix-zero w) h)
    go (suc k) i h = absurd (l k i)
