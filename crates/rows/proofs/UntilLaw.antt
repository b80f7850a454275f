-- Until on a row: a sweep from no finds each witness before the last letter, and on a loop a second sweep, from the bit at the loop's start, all.
use Rattle.std.proofs.Common.{◌≡◌, ℕ, zero, suc, ◌+◌, ◌-◌, ◌/◌, ◌^◌, ◌<◌, ◌≤◌, Bool, ◌&&◌, ◌||◌, T, ◌⊎◌, ◌↔◌, List, length, sym, refl, subst, inl, inr, arith}
use mathlib.Core.Logic.Iff
use Rattle.logic.specs.Letter.{bit}
use Rattle.logic.specs.Trace.{Trace, letter_at, size, InTrace}
use Rattle.logic.proofs.MomentsLaw.{gapless, inside-before}
use Rattle.logic.specs.Tree.{Ltl, luntil}
use Rattle.logic.specs.LtlMeaning.{LtlHolds}
use Rattle.logic.proofs.StepLaw.{until_now, until_later}
use Rattle.rows.specs.Inner.Rows.{bit_of, Tells, FitsRow, Swept}
use Rattle.logic.proofs.BitLaw.{bit-zero, bit_brought}
use Rattle.rows.proofs.BitOfLaw.{bit_of_lt, bit_of_start, in_loop, Next, on, round, end, next}
use Rattle.logic.proofs.TestLaw.{and_iff, or_iff}

-- A step: the second operand, or the first and what follows.
step_is : (b a c : Bool) → (T b ⊎ (T a × T c)) ↔ T (b || a && c)
step_is b a c = or_iff b (a && c) Iff.rfl (and_iff a c Iff.rfl Iff.rfl)

-- ── A sweep by moments ──

module _ (lead loop : List ℕ) (few : FitsRow lead loop) (f g : ℕ) where
  abbrev t : Trace
  t = letter_at lead loop

  abbrev n : ℕ
  n = size lead loop

  abbrev at : ℕ → ℕ
  at i = bit_of lead loop i

  -- The place of the loop's start.
  abbrev start : ℕ
  start = length loop - 1

  module _ (c : Bool) (r : ℕ) (R : Swept f g c r) where
    -- What follows moment i in row r.
    abbrev after : {i : ℕ} → Next lead loop i → Bool
    after {i} (on e k) = bit r (at (suc i))
    after (round z e k) = c
    after (end z e k) = c

    step : {i : ℕ} → InTrace t i → (N : Next lead loop i) → bit r (at i) ≡ bit g (at i) || bit f (at i) && after N
    step {i} k (on e k') = rw e (R.before (at (suc i)) (omega (arith, e, few.most, bit_of_lt lead loop i k)))
    step {i} k (round z e k') = rw z R.last
    step {i} k (end z e k') = rw z R.last

    says_now : {i : ℕ} → InTrace t i → Next lead loop i → T (bit g (at i)) → T (bit r (at i))
    says_now {i} k N b = subst T (sym (step k N)) ((step_is (bit g (at i)) (bit f (at i)) (after N)).0 (inl b))

    says_later : {i : ℕ} → InTrace t i → (N : Next lead loop i) → T (bit f (at i)) → T (after N) → T (bit r (at i))
    says_later {i} k N a h = subst T (sym (step k N)) ((step_is (bit g (at i)) (bit f (at i)) (after N)).0 (inr (a, h)))

    -- Where a sweep says yes, everything holds that its step keeps.
    module _ (P : ℕ → Type 0) where
      abbrev Then : {i : ℕ} → Next lead loop i → Type 0
      Then {i} (on e k) = P (suc i)
      Then (round z e k) = T c
      Then (end z e k) = T c

      least : ((i : ℕ) → InTrace t i → T (bit g (at i)) → P i)
          → ((i : ℕ) → InTrace t i → T (bit f (at i)) → (N : Next lead loop i) → Then N → P i)
          → (d i : ℕ) → at i < d → InTrace t i → T (bit r (at i)) → P i
      least now later zero i b k h = absurd (omega arith)
      least now later (suc d) i b k h =
          let N = next lead loop i k in
          elim ((step_is (bit g (at i)) (bit f (at i)) (after N)).1 (subst T (step k N) h)) [
            | inl b ↦ now i k b
            | inr (a, l) ↦ later i k a N (go N l (least now later d (suc i)))
          ]
        where
          go : (N : Next lead loop i) → T (after N) → (at (suc i) < d → InTrace t (suc i) → T (bit r (at (suc i))) → P (suc i)) → Then N
          go (on e k') h rec = rec (omega (arith, e)) k' h
          go (round z e k') h rec = h
          go (end z e k') h rec = h

  -- ── What a sweep tells ──

  module _ (x y : Ltl) (F : Tells lead loop f x) (G : Tells lead loop g y) where
    abbrev Until : ℕ → Type 0
    Until i = LtlHolds (luntil x y) t i

    module _ (c : Bool) (r : ℕ) (R : Swept f g c r) where
      -- Where the row says yes there is a witness, if the carry says yes only of an until at the loop's start.
      sound : (length loop ≡ 0 → T c → ⊥) → ((i : ℕ) → InTrace t i → suc (at i) ≡ length loop → T c → Until i)
          → (i : ℕ) → InTrace t i → T (bit r (at i)) → Until i
      sound ended looped i k h =
          least c r R Until (λ i k b. until_now x y t i k ((G.at i k).1 b)) (λ i k a N u. until_later x y t i ((F.at i k).1 a) (later i N u))
          n i (bit_of_lt lead loop i k) k h
        where
          later : (i : ℕ) (N : Next lead loop i) → Then c r R Until N → Until (suc i)
          later i (on e k) u = u
          later i (round z e k) u = looped (suc i) k e u
          later i (end z e k) u = absurd (ended e u)

      -- Where there is a witness the row says yes, if the carry says yes where the row does at the loop's start.
      complete : (0 < length loop → T (bit r start) → T c) → (d i j : ℕ) → j ≡ i + d → InTrace t j → LtlHolds y t j
          → ((m : ℕ) → i ≤ m → m < j → LtlHolds x t m) → T (bit r (at i))
      complete looped zero i j e k h u =
          let z : j ≡ i = omega arith in
          let k' : InTrace t i = subst (InTrace t) z k in
          says_now c r R k' (next lead loop i k') ((G.at i k').0 (subst (LtlHolds y t) z h))
      complete looped (suc d) i j e k h u =
          let k' : InTrace t (suc i) = inside-before t (gapless lead loop) d (suc i) j (omega arith) k in
          let k'' : InTrace t i = gapless lead loop i k' in
          let N = next lead loop i k'' in
          says_later c r R k'' N ((F.at i k'').0 (u i (omega arith) (omega arith)))
          (go k' N (complete looped d (suc i) j (omega arith) k h (λ m l b. u m (omega arith) b)))
        where
          go : InTrace t (suc i) → (N : Next lead loop i) → T (bit r (at (suc i))) → T (after c r R N)
          go k (on e k') h = h
          go k (round z e k') h =
              let q : at (suc i) ≡ start = omega arith in
              looped (omega arith) (subst (λ (m : ℕ). T (bit r m)) q h)
          go k (end z e k') h = absurd (k' k)

      tells : ((i : ℕ) → InTrace t i → T (bit r (at i)) → Until i) → (0 < length loop → T (bit r start) → T c) → Tells lead loop r (luntil x y)
      tells holds looped =
          record { at = λ i k. (λ u. complete looped (u.0 - i) i u.0 (omega (arith, u.1)) u.2 u.3 u.4, holds i k) }

    -- From no, each yes has its witness before the last letter.
    from_no : (r : ℕ) → Swept f g (bit 0 0) r → (i : ℕ) → InTrace t i → T (bit r (at i)) → Until i
    from_no r R = sound (bit 0 0) r R (λ e h. no-bit h) (λ i k e h. absurd (no-bit h))
      where
        no-bit : T (bit 0 0) → ⊥
        no-bit h = subst T (bit-zero 0) h

    -- On a finite trace that is all.
    pub tells-until_once : (r : ℕ) → length loop ≡ 0 → Swept f g (bit 0 0) r → Tells lead loop r (luntil x y)
    tells-until_once r z R = tells (bit 0 0) r R (from_no r R) (λ l h. absurd (omega arith))

    -- On a loop a second sweep goes on from what the first says of the loop's start, and says the same of it.
    pub tells-until_twice : (once r : ℕ) → (length loop ≡ 0 → ⊥) → Swept f g (bit 0 0) once → Swept f g (bit (once / 2 ^ start) 0) r
        → Tells lead loop r (luntil x y)
    tells-until_twice once r q O R' = tells (bit once start) r R (sound (bit once start) r R (λ e h. absurd (q e)) again) same
      where
        R : Swept f g (bit once start) r
        R = subst (λ (c : Bool). Swept f g c r) (bit_brought once start) R'

        again : (i : ℕ) → InTrace t i → suc (at i) ≡ length loop → T (bit once start) → Until i
        again i k e h =
            let s : start ≡ at i = omega arith in
            from_no once O i k (subst (λ (m : ℕ). T (bit once m)) s h)

        P : ℕ → Type 0
        P i = T (bit once (at i)) ⊎ T (bit once start)

        later : (i : ℕ) → InTrace t i → T (bit f (at i)) → (N : Next lead loop i) → Then (bit once start) r R P N → P i
        later i k a (on e k') (inl h) = inl (says_later (bit 0 0) once O k (on e k') a h)
        later i k a (on e k') (inr h) = inr h
        later i k a (round z e k') h = inr h
        later i k a (end z e k') h = inr h

        same : 0 < length loop → T (bit r start) → T (bit once start)
        same l h =
            let p = length lead in
            let s : at p ≡ start = omega (arith, bit_of_start lead loop p refl l) in
            let now : (i : ℕ) → InTrace t i → T (bit g (at i)) → P i = λ i k b. inl (says_now (bit 0 0) once O k (next lead loop i k) b) in
            let k = in_loop lead loop p (omega arith) l in
            elim (least (bit once start) r R P now later n p (bit_of_lt lead loop p k) k (subst (λ (m : ℕ). T (bit r m)) (sym s) h)) [
              | inl o ↦ subst (λ (m : ℕ). T (bit once m)) s o
              | inr o ↦ o
            ]
