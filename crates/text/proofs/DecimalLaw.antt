-- Laws of a line that is a number from its first byte to its last.
use mathlib.Core.Path.{◌≡◌, refl, sym, ap, ◌∙◌}
use mathlib.Core.List.{List, [], ◌++◌, append-nil}
use Rattle.std.specs.Prelude.{Option, Some, None, Ok, Err}
use Prim.Native.Nat.{ℕ, ◌≤◌, ◌<◌}
use native.Mathlib.Omega.{arith}
use lib.ListN.{length, drop, length-drop, drop_of_length-le}
use Rattle.text.specs.Spelling.{digits}
use Rattle.text.specs.Inner.Scan.{NumberStands, NumberRead, DecimalRead}
use Rattle.text.specs.declared.scan.Fault.{Fault}
use Rattle.text.proofs.NumberLaw.{digits_unique}

-- What stands at the front is the only number that the line can be, and nothing follows it then.
only : (n m : ℕ) (s : List ℕ) (next : ℕ) → NumberStands n s 0 next → s ≡ digits m → (n ≡ m) × (drop next s ≡ [])
only n m s next z e = digits_unique n m (drop next s) [] z.ends tt (sym z.stands.is ∙ e ∙ sym (append-nil (digits m)))

-- The line ends behind it.
pub whole : (s t : List ℕ) (next : ℕ) (v : Option ℕ) → t ≡ s → NumberRead s 0 18446744073709551615 next (Ok v) → length t ≤ next → DecimalRead s v
whole s t next (Some v) q (n, (e, h), z) l =
    let none : drop next s ≡ [] = drop_of_length-le s (omega (arith, ap length q)) in
    z.stands.is ∙ ap (λ (u : List ℕ). digits n ++ u) none ∙ append-nil (digits n) ∙ ap digits e
whole s t next None q (n, h, z) l = λ m g e. let (p, d) = only n m s next z e in absurd (omega arith)

-- More follows it.
pub longer : (s t : List ℕ) (next : ℕ) (v : Option ℕ) → t ≡ s → NumberRead s 0 18446744073709551615 next (Ok v) → next < length t → DecimalRead s None
longer s t next v q (n, h, z) l = λ m g e. let (p, d) = only n m s next z e in absurd (omega (arith, length-drop next s, ap length d, ap length q))

-- No number stands at the front.
pub faulty : (s : List ℕ) (next : ℕ) (f : Fault) → NumberRead s 0 18446744073709551615 next (Err f) → DecimalRead s None
faulty s next f (e, h, z) = λ m g d. (h (omega arith)).none s (record { is = refl }) (m, [], tt, d ∙ sym (append-nil (digits m)))
