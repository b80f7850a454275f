-- Texts put one behind the other.
use mathlib.Core.Path.{◌≡◌, ap, sym, subst, ◌∙◌}
use mathlib.Core.List.{List, [], ◌∷◌, ◌++◌}
use Prim.Native.Nat.{ℕ, ◌+◌, ◌/◌, ◌%◌, ◌^◌, ◌<◌, ◌≤◌}
use native.Mathlib.Omega.{arith}
use lib.ListN.{length, take, length-take}
use lib.Seq.{take_all}
use Rattle.std.proofs.lemmas.Fmt.{decimal_by_steps}
use Rattle.std.specs.Fmt.{decimal}
use Rattle.text.specs.Spelling.{digits}
use Rattle.text.proofs.NumberLaw.{digits_small, digits_more}

-- Where a vector still has room, nothing was left out.
pub put_whole : (n : ℕ) (l w m : List ℕ) → m ≡ take n (l ++ w) → length m < n → m ≡ l ++ w
put_whole n l w m e h = e ∙ take_all n (l ++ w) (shorter n (l ++ w) (subst (λ (x : List ℕ). length x < n) e h))
  where
    shorter : (n : ℕ) (x : List ℕ) → length (take n x) < n → length x ≤ n
    shorter n x h = omega (arith, length-take n x)

-- A number is spelled as the library prints it.
pub digits_decimal : (k : ℕ) → k < 2 ^ 64 → decimal k ≡ digits k
digits_decimal = decimal_by_steps (λ k x. x ≡ digits k) (λ k h. sym (digits_small k h)) more
  where
    more : (k : ℕ) (x : List ℕ) → 10 ≤ k → x ≡ digits (k / 10) → x ++ ((48 + k % 10) ∷ []) ≡ digits k
    more k x h e =
        ap (λ (y : List ℕ). y ++ ((48 + k % 10) ∷ [])) e ∙ sym (digits_more (k / 10) (k % 10) (omega arith) (omega arith)) ∙ ap digits (omega arith)
