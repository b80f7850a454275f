-- The translation of a formula holds exactly where the formula does, on every trace that is not empty: demand 3, of trees.
use Prim.Native.Nat.{ℕ, zero, suc, ◌+◌, ◌<◌}
use mathlib.Core.Path.{◌≡◌, refl, sym, ap, subst, fun_ext, ◌∙◌}
use mathlib.Core.Logic.{◌↔◌}
use mathlib.Core.Bool.{false}
use mathlib.Core.Option.{Option, none, some}
use mathlib.Core.List.{List}
use native.Mathlib.Omega.{arith}
use native.Mathlib.Nat.{add-zero, zero-add}
use Rattle.logic.specs.Trace.{Trace, letter_at, size, Has}
use Rattle.logic.specs.Word.{Word, slot_of, word_of}
use Rattle.logic.specs.Formula.{Formula}
use Rattle.logic.specs.Meaning.{Holds, HoldsOn}
use Rattle.logic.specs.LtlMeaning.{LtlHolds, LtlHoldsOn}
use Rattle.logic.specs.Translation.{falsum, translation}
use Rattle.logic.proofs.MomentsLaw.{Gapless, gapless, inside-before, letter_of, outside, starts, searchable}
use Rattle.logic.proofs.MarkedLaw.{Test, mark, onward, marked}
use Rattle.logic.proofs.KeepsLaw.{Says, keeps}

never : Test
never x = false

-- With falsum to accept or reject the marked word is the trace's.
unmarked : (t : Trace) → Gapless t → (k i : ℕ) → marked never never t i k ≡ slot_of (t (i + k))
unfolding never
unmarked t g zero i = go (t i) ∙ ap (λ (m : ℕ). slot_of (t m)) (sym (add-zero i))
  where
    go : (o : Option ℕ) → mark never never o ≡ slot_of o
    go none = refl
    go (some x) = refl
unmarked t g (suc k) i = go (t i) refl (unmarked t g k (suc i) ∙ ap (λ (m : ℕ). slot_of (t m)) (omega arith))
  where
    go : (o : Option ℕ) → t i ≡ o → marked never never t (suc i) k ≡ slot_of (t (i + suc k))
        → onward (mark never never o) (marked never never t (suc i) k) ≡ slot_of (t (i + suc k))
    go none e ih = sym (ap slot_of (outside (t (i + suc k)) (λ h. subst Has e (inside-before t g (suc k) i (i + suc k) refl h))))
    go (some x) e ih = ih

says_never : (t : Trace) → Says t falsum never
unfolding never
says_never t i x e = (λ h. h tt, λ h. absurd h)

-- A formula holds on a trace that is not empty exactly where its translation does at moment 0.
pub translated-holds : (f : Formula) (lead loop : List ℕ) → 0 < size lead loop
    → HoldsOn f lead loop ↔ LtlHoldsOn (translation f) lead loop
unfolding never
translated-holds f lead loop h =
    let t : Trace = letter_at lead loop in
    let x = letter_of (t 0) (starts lead loop h) in
    let w : marked never never t 0 ≡ word_of t =
    fun_ext (λ k. unmarked t (gapless lead loop) k 0 ∙ ap (λ (m : ℕ). slot_of (t m)) (zero-add k)) in
    subst (λ (u : Word). Holds f u ↔ LtlHolds (translation f) t 0) w
    (keeps f t (searchable lead loop) (gapless lead loop) falsum falsum never never (says_never t) (says_never t) (λ y p q. p) 0 x.0 x.1)
