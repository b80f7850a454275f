-- Laws of limits, tests of which the first that fails refuses.
use mathlib.Core.Path.{◌≡◌, refl}
use mathlib.Core.Bool.{Bool, true, false}
use mathlib.Core.Option.{Option, none, some}
use Prim.Native.Nat.{ℕ}
use native.Mathlib.Omega.{arith}
use Rattle.trace.specs.declared.refusal.Refusal.{Refusal}
use Rattle.std.specs.Prelude.{None}
use Rattle.trace.proofs.ReasonLaw.{of_none, of_unless, of_either}
use Rattle.trace.specs.Refusal.{place, unless, or_else}
use mathlib.Core.Option.{some-ne-none}

-- Two tests that are passed.
pub passed : (a b : Bool) (x y : Refusal) → unless a x (unless b y none) ≡ none → (a ≡ true) × (b ≡ true)
passed false b x y e = absurd (some-ne-none _ e)
passed true false x y e = absurd (some-ne-none _ e)
passed true true x y e = (refl, refl)

-- Limits that carry no place.
abbrev Unplaced : Refusal → Type 0
Unplaced z = place z ≡ None

pub unplaced : (a b : Bool) (x y : Refusal) → Unplaced x → Unplaced y → (z : Refusal) → unless a x (unless b y none) ≡ some z → Unplaced z
unplaced a b x y p q z = of_unless Unplaced z a x _ p (of_unless Unplaced z b y none q (of_none Unplaced z))

pub or_unplaced : (o : Option Refusal) → ((z : Refusal) → o ≡ some z → Unplaced z) → (c : Bool) (x : Refusal) → Unplaced x → (z : Refusal) → or_else o (unless c x none) ≡ some z → Unplaced z
or_unplaced o h c x p z = of_either Unplaced z o _ (h z) (of_unless Unplaced z c x none p (of_none Unplaced z))

-- A third test that is passed where the first two are.
pub third : (a b c : Bool) (x y z : Refusal) → (a ≡ true → b ≡ true → c ≡ true) → or_else (unless a x (unless b y none)) (unless c z none) ≡ unless a x (unless b y none)
third false b c x y z h = refl
third true false c x y z h = refl
third true true true x y z h = refl
third true true false x y z h = let e = h refl refl in let n : ◌≡◌ {A = ℕ} 0 1 = cc in absurd (omega arith)
