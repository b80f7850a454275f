-- A claim about every number below n, from one proof a number: claims about kinds, kind by kind.
use Prim.Native.Nat.{ℕ, zero, suc, ◌<◌}
use native.Mathlib.Omega.{arith}

infixr 5 ◌⨾◌
pub data Both (A B : Type 0) : Type 0 where
  ◌⨾◌ : A → B → Both A B

abbrev pub Each : (ℕ → Type 0) → ℕ → Type 0
Each P zero = Unit {0}
Each P (suc n) = Both (P zero) (Each (λ k. P (suc k)) n)

pub each : (P : ℕ → Type 0) (n : ℕ) → Each P n → (j : ℕ) → j < n → P j
each P zero ps j h = absurd (omega arith)
each P (suc n) (p ⨾ ps) zero h = p
each P (suc n) (p ⨾ ps) (suc j) h = each (λ k. P (suc k)) n ps j (omega arith)
