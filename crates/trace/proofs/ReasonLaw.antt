-- Which of several refusals applied: what is so of each is so of the one that did.
use mathlib.Core.Path.{◌≡◌, refl, sym, subst}
use mathlib.Core.Bool.{Bool, true, false}
use mathlib.Core.Option.{Option, none, some, some-ne-none, some-injective}
use Prim.Native.Nat.{ℕ, zero, suc}
use native.Mathlib.Omega.{arith}
use Rattle.trace.specs.declared.refusal.Refusal.{Refusal}
use Rattle.trace.specs.Refusal.{unless, or_else, lowest, IsLowest}

module _ (P : Refusal → Type 0) (y : Refusal) where
  pub of_none : none ≡ some y → P y
  of_none e = absurd (some-ne-none y (sym e))

  pub of_unless : (b : Bool) (x : Refusal) (o : Option Refusal) → P x → (o ≡ some y → P y) → unless b x o ≡ some y → P y
  of_unless true x o p q e = q e
  of_unless false x o p q e = subst P (some-injective _ _ e) p

  pub of_either : (o p : Option Refusal) → (o ≡ some y → P y) → (p ≡ some y → P y) → or_else o p ≡ some y → P y
  of_either none p f g e = g e
  of_either (some x) p f g e = f e

-- What decides is some number's.
pub lowest_of : (f : ℕ → Option Refusal) (n : ℕ) (x : Refusal) → lowest f n ≡ some x → (i : ℕ) × IsLowest f n x i
unfolding lowest
lowest_of f zero x e = absurd (some-ne-none x (sym e))
lowest_of f (suc n) x e = go (lowest f n) refl (lowest_of f n x) e
  where
    go : (o : Option Refusal) → lowest f n ≡ o → (o ≡ some x → (i : ℕ) × IsLowest f n x i) → or_else o (f n) ≡ some x → (i : ℕ) × IsLowest f (suc n) x i
    go none q rec d = (n, record { inside = omega arith; refused = d; lowest = q })
    go (some y) q rec d = let (i, l) = rec d in (i, record { inside = omega (arith, l.inside); refused = l.refused; lowest = l.lowest })
