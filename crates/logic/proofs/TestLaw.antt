-- Claims that a test decides: that they are decided; not, and, or of them.
use mathlib.Core.Logic.{◌⊎◌, inl, inr, ◌↔◌}
use mathlib.Core.Bool.{Bool, true, false, not, ◌&&◌, ◌||◌}
use lib.Dec.{T}

pub decided_test : (b : Bool) → Dec (T b)
decided_test true = yes tt
decided_test false = no (λ h. h)

pub not_iff : {A : Type 0} (x : Bool) → A ↔ T x → (A → ⊥) ↔ T (not x)
not_iff true e = (λ h. h (e.1 tt), λ h. absurd h)
not_iff false e = (λ h. tt, λ h. e.0)

pub and_iff : {A B : Type 0} (x y : Bool) → A ↔ T x → B ↔ T y → (A × B) ↔ T (x && y)
and_iff true y e d = (λ h. d.0 h.1, λ h. (e.1 tt, d.1 h))
and_iff false y e d = (λ h. e.0 h.0, λ h. absurd h)

pub or_iff : {A B : Type 0} (x y : Bool) → A ↔ T x → B ↔ T y → (A ⊎ B) ↔ T (x || y)
or_iff true y e d = (λ h. tt, λ h. inl (e.1 tt))
or_iff false y e d = (λ h. elim h [ inl a ↦ absurd (e.0 a) | inr b ↦ d.0 b ], λ h. inr (d.1 h))
