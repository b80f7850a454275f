-- Searching the moments for a predicate that is decided at each: below a bound and, where it comes back again and again, for ever.
use Prim.Native.Nat.{ℕ, zero, suc, ◌+◌, ◌-◌, ◌≤◌, ◌<◌}
use mathlib.Core.Path.{subst}
use mathlib.Core.Logic.Dec
use mathlib.Core.Logic.{◌⊎◌, inl, inr, ◌↔◌}
use native.Mathlib.Omega.{arith}
use native.Mathlib.Decide.{dec_le, dec_lt, ℕ_discrete}

-- k is the earliest moment from i on at which P holds.
pub record Earliest (P : ℕ → Type 0) (i k : ℕ) : Type 0 where
  pub from : i ≤ k
  pub holds : P k
  pub none_before : (j : ℕ) → i ≤ j → j < k → P j → ⊥

-- There is one, below n.
abbrev pub Found : (ℕ → Type 0) → ℕ → ℕ → Type 0
Found P i n = (k : ℕ) × (k < n) × Earliest P i k

module _ (P : ℕ → Type 0) (decided : (k : ℕ) → Dec (P k)) where
  pub earliest_below : (i n : ℕ) → Found P i n ⊎ ((k : ℕ) → i ≤ k → k < n → P k → ⊥)
  earliest_below i zero = inr (λ k l b h. omega arith)
  earliest_below i (suc n) = go (earliest_below i n) (dec_le i n) (decided n)
    where
      go : Found P i n ⊎ ((k : ℕ) → i ≤ k → k < n → P k → ⊥) → Dec (i ≤ n) → Dec (P n)
          → Found P i (suc n) ⊎ ((k : ℕ) → i ≤ k → k < suc n → P k → ⊥)
      go (inl (k, b, E)) l d = inl (k, omega arith, E)
      go (inr none) (yes l) (yes h) = inl (n, omega arith, record { from = l; holds = h; none_before = none })
      go (inr none) (yes l) (no h) =
          inr (λ k m b q. elim (ℕ_discrete k n) [ yes e ↦ h (subst P e q) | no e ↦ none k m (omega arith) q ])
      go (inr none) (no l) d = inr (λ k m b. none k m (omega arith))

  pub decided_below : (n : ℕ) → Dec ((k : ℕ) × (k < n) × P k)
  decided_below n =
      elim (earliest_below 0 n) [
        | inl (k, b, E) ↦ yes (k, b, E.holds)
        | inr none ↦ no (λ h. none h.0 (omega arith) h.1 h.2)
      ]

-- ── Where P comes back: from a on, every p moments ──

module _ (P : ℕ → Type 0) (a p : ℕ) (pos : 0 < p) (back : (k : ℕ) → a ≤ k → P (k + p) → P k) (i : ℕ) where
  -- If P fails at the first a + p moments from i on, it fails for ever.
  pub never_after : ((k : ℕ) → i ≤ k → k < i + (a + p) → P k → ⊥) → (k : ℕ) → i ≤ k → P k → ⊥
  never_after none k = below (suc k) k (omega arith)
    where
      below : (m k : ℕ) → k < m → i ≤ k → P k → ⊥
      below zero k b l h = omega arith
      below (suc m) k b l h =
          elim (dec_lt k (i + (a + p))) [
            | yes c ↦ none k l c h
            | no c ↦ below m (k - p) (omega arith) (omega arith) (back (k - p) (omega arith) (subst P (omega arith) h))
          ]

  module _ (decided : (k : ℕ) → Dec (P k)) where
    pub earliest_ever : Found P i (i + (a + p)) ⊎ ((k : ℕ) → i ≤ k → P k → ⊥)
    earliest_ever = elim (earliest_below P decided i (i + (a + p))) [ inl E ↦ inl E | inr none ↦ inr (never_after none) ]

pub decided_or : {A B : Type 0} → Dec A → Dec B → Dec (A ⊎ B)
decided_or (yes a) d = yes (inl a)
decided_or (no a) (yes b) = yes (inr b)
decided_or (no a) (no b) = no (λ h. elim h [ inl x ↦ a x | inr y ↦ b y ])

-- ── Until, by the first moment that settles it: G holds there or F fails ──

abbrev pub Until : (ℕ → Type 0) → (ℕ → Type 0) → ℕ → Type 0
Until F G i = (k : ℕ) × (i ≤ k) × G k × ((j : ℕ) → i ≤ j → j < k → F j)

abbrev Settles : (ℕ → Type 0) → (ℕ → Type 0) → ℕ → Type 0
Settles F G k = G k ⊎ (F k → ⊥)

module _ (F G : ℕ → Type 0) (decided : (k : ℕ) → Dec (F k)) where
  until_settled : (i k : ℕ) → Earliest (Settles F G) i k → G k ↔ Until F G i
  until_settled i k E = (
    λ h. (k, E.from, h, λ j l b. (Dec.not-not (decided j)).0 (λ n. E.none_before j l b (inr n))),
    λ u. go u E.holds (dec_lt u.0 k) (dec_lt k u.0),
  )
    where
      go : (u : Until F G i) → Settles F G k → Dec (u.0 < k) → Dec (k < u.0) → G k
      go u s (yes b) d = absurd (E.none_before u.0 u.1 b (inl u.2))
      go u (inl h) (no b) (yes c) = h
      go u (inr n) (no b) (yes c) = absurd (n (u.3 k E.from c))
      go u s (no b) (no c) = subst G (omega arith) u.2

  pub decided_until : (a p : ℕ) → 0 < p → ((k : ℕ) → a ≤ k → F k → F (k + p)) → ((k : ℕ) → a ≤ k → G (k + p) → G k)
      → ((k : ℕ) → Dec (G k)) → (i : ℕ) → Dec (Until F G i)
  decided_until a p pos on back holds i =
      elim (earliest_ever (Settles F G) a p pos settles_back i (λ k. decided_or (holds k) (Dec.not (decided k)))) [
        | inl (k, b, E) ↦ Dec.of_iff (until_settled i k E) (holds k)
        | inr never ↦ no (λ u. never u.0 u.1 (inl u.2))
      ]
    where
      settles_back : (k : ℕ) → a ≤ k → Settles F G (k + p) → Settles F G k
      settles_back k l (inl h) = inl (back k l h)
      settles_back k l (inr n) = inr (λ h. n (on k l h))
