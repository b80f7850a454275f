-- Laws of sums over the numbers below n.
use Prim.Native.Nat.{ℕ, zero, suc, ◌+◌, ◌<◌}
use mathlib.Core.Path.{◌≡◌, refl, ap}
use native.Mathlib.Omega.{arith}
use native.Mathlib.Decide.{dec_lt}
use Rattle.psl.specs.Check.{total}

pub total-same : (f g : ℕ → ℕ) (n : ℕ) → ((i : ℕ) → i < n → f i ≡ g i) → total f n ≡ total g n
unfolding total
total-same f g zero h = refl
total-same f g (suc n) h = omega (arith, total-same f g n (λ i l. h i (omega arith)), h n (omega arith))

pub total-add : (f g : ℕ → ℕ) (n : ℕ) → total (λ i. f i + g i) n ≡ total f n + total g n
unfolding total
total-add f g zero = refl
total-add f g (suc n) = omega (arith, total-add f g n)

pub total-zero : (f : ℕ → ℕ) (n : ℕ) → ((i : ℕ) → i < n → f i ≡ 0) → total f n ≡ 0
unfolding total
total-zero f zero h = refl
total-zero f (suc n) h = omega (arith, total-zero f n (λ i l. h i (omega arith)), h n (omega arith))

-- From the front.
pub total_front : (f : ℕ → ℕ) (n : ℕ) → total f (suc n) ≡ f 0 + total (λ i. f (suc i)) n
unfolding total
total_front f zero = omega arith
total_front f (suc n) = omega (arith, total_front f n)

pub total_ones : (n : ℕ) → total (λ i. 1) n ≡ n
unfolding total
total_ones zero = refl
total_ones (suc n) = omega (arith, total_ones n)

-- A sum with one number that is not 0.
pub total-one : (f : ℕ → ℕ) (l n : ℕ) → l < n → ((i : ℕ) → (i ≡ l → ⊥) → f i ≡ 0) → total f n ≡ f l
unfolding total
total-one f l zero h z = absurd (omega arith)
total-one f l (suc n) h z =
    elim (dec_lt l n) [
      | yes d ↦ omega (arith, total-one f l n d z, z n (λ q. omega arith))
      | no d ↦ let e : n ≡ l = omega arith in omega (arith, total-zero f n (λ i g. z i (λ q. omega arith)), ap f e)
    ]
