-- The sentences with known verdicts hold.
use Prim.Native.Nat.{ℕ, zero, suc, ◌+◌, ◌%◌, ◌<◌}
use mathlib.Core.Path.{◌≡◌, refl, subst}
use mathlib.Core.Logic.{inl, inr}
use mathlib.Core.List.{[], ◌∷◌}
use native.Mathlib.Omega.{arith}
use lib.Dec.{T}
use lib.ListN.{get_or}
use Rattle.logic.specs.Letter.{bit}
use Rattle.logic.specs.Trace.{letter_at}
use Rattle.logic.specs.Word.{Slot, flip, Word, suffix, word_of}
use Rattle.logic.proofs.WordLaw.{cut-past}
use Rattle.logic.specs.Formula.{btrue, strong}
use Rattle.logic.specs.Meaning.{Satisfies, sat, Holds}
use Rattle.logic.specs.KnownVerdicts.{p, KnownVerdicts}

-- A property of every number below one.
below_one : (P : ℕ → Type 0) → P 0 → (j : ℕ) → j < 1 → P j
below_one P h zero l = h
below_one P h (suc j) l = absurd (omega arith)

zeroes : (m : ℕ) → ◌≡◌ {A = ℕ} (get_or (0 ∷ []) m 0) 0
zeroes zero = refl
zeroes (suc m) = refl

pub known_verdicts : KnownVerdicts
unfolding letter_at bit
known_verdicts =
    let w : Word = word_of (letter_at (1 ∷ []) []) in
    record {
      c1 = inl (λ h. h);
      c2 = λ h. h.0;
      c3 = λ h. h (inl (λ g. g));
      c4 = inl (λ h. h);
      c5 = λ h. h.0;
      c6 = λ h. h.0;
      c7 = (1, tt, (tt, tt), below_one (λ j. Holds (strong btrue) (suffix j (word_of (letter_at (0 ∷ []) (1 ∷ []))))) (tt, tt));
      c8 = λ h. subst (λ (x : ℕ). T (sat p x)) (zeroes ((h.0 + 0) % 1)) h.2.1;
      c9 = inr (0, tt, tt, (tt, tt));
      c10 = λ h. h (inr (0, tt, tt, (tt, (tt, tt))));
      c11 =
          inr (
            0,
            tt,
            tt,
            λ h. elim h [
              | inl x ↦ x.1
              | inr y ↦ subst (λ (s : Slot). Satisfies p (flip s)) (cut-past w 0 y.0 (omega arith)) y.2
            ],
          );
      c12 = (tt, (1, tt, (tt, tt), below_one (λ j. Holds (strong p) (suffix j (suffix 1 (word_of (letter_at [] (2 ∷ 1 ∷ [])))))) (tt, tt)));
    }
