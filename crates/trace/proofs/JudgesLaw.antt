-- Verdicts in general: which refusal applies, yes or no by a test, and that there is one.
use mathlib.Core.Path.{◌≡◌, refl, sym, ap, ◌∙◌}
use mathlib.Core.Bool.{Bool, true, false}
use mathlib.Core.Logic.{◌↔◌}
use mathlib.Core.Option.{Option, none, some, some-ne-none}
use mathlib.Core.List.{List}
use Prim.Native.Nat.{ℕ, ◌≤◌, ◌<◌}
use borrow.Author.Tests.{le-leb, lt-leb}
use lib.Dec.{T}
use Rattle.std.specs.Prelude.{Result, Ok, Err}
use Rattle.logic.specs.Trace.{size}
use Rattle.trace.specs.Limits.{most_letters}
use Rattle.trace.specs.declared.refusal.Refusal.{Refusal}
use Rattle.trace.specs.declared.refusal.Refusal.TheVariants.{LongTrace}
use Rattle.trace.specs.Refusal.{or_else}
use Rattle.trace.specs.Verdict.{long_refusal, Judges}

-- The first refusal decides.
pub refused-first : (o p : Option Refusal) {x : Refusal} → o ≡ some x → or_else o p ≡ some x
refused-first o p e = rw e

-- Where nothing else is refused, the letters decide.
module _ (o : Option Refusal) (lead loop : List ℕ) (e : o ≡ none) where
  pub too_long : most_letters < size lead loop → or_else o (long_refusal lead loop) ≡ some LongTrace
  too_long h = rw (e, lt-leb (size lead loop) most_letters h)

  pub not-long : size lead loop ≤ most_letters → or_else o (long_refusal lead loop) ≡ none
  not-long h = rw (e, le-leb (size lead loop) most_letters h)

-- Nothing is refused, and a test decides the claim.
pub judged : {o : Option Refusal} {A : Type 0} (b : Bool) → o ≡ none → A ↔ T b → Judges o A (Ok b)
judged true n f = (n, f.1 tt)
judged false n f = (n, f.0)

-- Two verdicts by one refusal, on claims that hold together, are the same.
pub one_verdict : (o : Option Refusal) {A B : Type 0} → A ↔ B → (v w : Result Bool Refusal) → Judges o A v → Judges o B w → v ≡ w
one_verdict o f (Ok true) (Ok true) p q = refl
one_verdict o f (Ok true) (Ok false) p q = absurd (q.1 (f.0 p.1))
one_verdict o f (Ok true) (Err y) p q = absurd (some-ne-none y (sym q ∙ p.0))
one_verdict o f (Ok false) (Ok true) p q = absurd (p.1 (f.1 q.1))
one_verdict o f (Ok false) (Ok false) p q = refl
one_verdict o f (Ok false) (Err y) p q = absurd (some-ne-none y (sym q ∙ p.0))
one_verdict o f (Err x) (Ok true) p q = absurd (some-ne-none x (sym p ∙ q.0))
one_verdict o f (Err x) (Ok false) p q = absurd (some-ne-none x (sym p ∙ q.0))
one_verdict o f (Err x) (Err y) p q = let e : x ≡ y = cc in ap (λ (z : Refusal). Err z) e

-- On one claim.
pub same_verdict : (o : Option Refusal) (A : Type 0) (v w : Result Bool Refusal) → Judges o A v → Judges o A w → v ≡ w
same_verdict o A = one_verdict o (λ (h : A). h, λ (h : A). h)
