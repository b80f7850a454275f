-- Laws of decimal digits: a number is written in one way, and the digits tell where it ends.
use mathlib.Core.Path.{◌≡◌, refl, ap, sym, subst, ◌∙◌}
use mathlib.Core.Bool.{Bool, true, false, cond}
use mathlib.Core.List.{List, [], ◌∷◌, ◌++◌, map, append_assoc, head-eq_of_cons-eq, tail-eq_of_cons-eq}
use Prim.Native.Nat.{ℕ, zero, suc, ◌+◌, ◌*◌, ◌-◌, ◌/◌, ◌%◌, ◌<◌, ◌≤◌}
use native.Mathlib.Omega.{arith}
use borrow.Author.Tests.{lt-ltb, le-ltb, ltb-true, ltb-false}
use lib.ListN.{length, length-append}
use lib.Dec.{ltb}
use Rattle.text.specs.Spelling.{digits_to, digits, ending}
use Rattle.text.specs.Inner.Number.{IsDigit, NoDigit}

-- ── The digits of a number ──

-- What holds of one digit and is kept by a digit more holds of all digits.
module _ (P : ℕ → List ℕ → Type 0) (one : (n : ℕ) → n < 10 → P n ((48 + n) ∷ []))
    (more : (n : ℕ) (x : List ℕ) → 10 ≤ n → P (n / 10) x → P n (x ++ ((48 + n % 10) ∷ []))) where
  digits_to_lem : (k n : ℕ) → n < k → P n (digits_to k n)
  unfolding digits_to
  digits_to_lem zero n h = absurd (omega arith)
  digits_to_lem (suc k) n h = go (ltb n 10) refl (λ q. digits_to_lem k (n / 10) (omega arith))
    where
      go : (b : Bool) → ltb n 10 ≡ b → (10 ≤ n → P (n / 10) (digits_to k (n / 10)))
          → P n (cond b ((48 + n) ∷ []) (digits_to k (n / 10) ++ ((48 + n % 10) ∷ [])))
      go true e f = one n (ltb-true n 10 e)
      go false e f = let q = ltb-false n 10 e in more n (digits_to k (n / 10)) q (f q)

  pub digits_ind : (n : ℕ) → P n (digits n)
  unfolding digits
  digits_ind n = digits_to_lem (suc n) n (omega arith)

pub digits_small : (n : ℕ) → n < 10 → digits n ≡ (48 + n) ∷ []
unfolding digits digits_to
digits_small n h = rw (lt-ltb n 10 h)

enough : (k j n : ℕ) → n < k → n < j → digits_to k n ≡ digits_to j n
unfolding digits_to
enough zero j n h g = absurd (omega arith)
enough (suc k) zero n h g = absurd (omega arith)
enough (suc k) (suc j) n h g = go (ltb n 10) refl (λ q. enough k j (n / 10) (omega arith) (omega arith))
  where
    go : (b : Bool) → ltb n 10 ≡ b → (10 ≤ n → digits_to k (n / 10) ≡ digits_to j (n / 10)) → digits_to (suc k) n ≡ digits_to (suc j) n
    go true e f = simp e
    go false e f = simp (e, f (ltb-false n 10 e))

pub digits_more : (v d : ℕ) → 0 < v → d < 10 → digits (10 * v + d) ≡ digits v ++ ((48 + d) ∷ [])
unfolding digits digits_to
digits_more v d h g =
    let q : (10 * v + d) / 10 ≡ v = omega arith in
    let r : (10 * v + d) % 10 ≡ d = omega arith in
    let e = enough (10 * v + d) (suc v) v (omega arith) (omega arith) in
    simp (le-ltb (10 * v + d) 10 (omega arith), q, r) (ap (λ (x : List ℕ). x ++ ((48 + d) ∷ [])) e)

-- The least number of more than k + 1 digits.
abbrev pub tens : ℕ → ℕ
tens zero = 10
tens (suc k) = 10 * tens k

pub digits-short : (k n : ℕ) → n < tens k → length (digits n) ≤ suc k
digits-short k n = digits_ind (λ n x. (k : ℕ) → n < tens k → length x ≤ suc k) (λ n h k g. omega arith) more n k
  where
    more : (n : ℕ) (x : List ℕ) → 10 ≤ n → ((k : ℕ) → n / 10 < tens k → length x ≤ suc k) → (k : ℕ) → n < tens k → length (x ++ ((48 + n % 10) ∷ [])) ≤ suc k
    more n x h l zero g = absurd (omega arith)
    more n x h l (suc k) g = omega (arith, length-append x ((48 + n % 10) ∷ []), l k (omega arith))

-- ── A number from its digits ──

value : ℕ → List ℕ → ℕ
value v [] = v
value v (b ∷ x) = value (10 * v + (b - 48)) x

value_more : (x : List ℕ) (v b : ℕ) → value v (x ++ (b ∷ [])) ≡ 10 * value v x + (b - 48)
unfolding value
value_more [] v b = refl
value_more (a ∷ x) v b = value_more x (10 * v + (a - 48)) b

value_digits : (n : ℕ) → value 0 (digits n) ≡ n
value_digits =
    digits_ind (λ n x. value 0 x ≡ n) (λ n h. unfold value in omega arith)
    (λ n x h e. value_more x 0 (48 + n % 10) ∙ omega arith)

-- All bytes are digits.
abbrev Digits : List ℕ → Type 0
Digits [] = Unit {0}
Digits (b ∷ x) = IsDigit b × Digits x

digits_snoc : (x : List ℕ) (b : ℕ) → Digits x → IsDigit b → Digits (x ++ (b ∷ []))
digits_snoc [] b h d = (d, tt)
digits_snoc (a ∷ x) b (c, h) d = (c, digits_snoc x b h d)

all_digits : (n : ℕ) → Digits (digits n)
all_digits =
    digits_ind (λ n x. Digits x) (λ n h. ((omega arith, omega arith), tt))
    (λ n x h d. digits_snoc x (48 + n % 10) d (omega arith, omega arith))

split : (x y t u : List ℕ) → Digits x → Digits y → NoDigit t → NoDigit u → x ++ t ≡ y ++ u → (x ≡ y) × (t ≡ u)
split [] [] t u h g a b e = (refl, e)
split [] (c ∷ y) t u h (d, g) a b e = absurd (subst NoDigit e a d)
split (c ∷ x) [] t u (d, h) g a b e = absurd (subst NoDigit (sym e) b d)
split (c ∷ x) (d ∷ y) t u (_, h) (_, g) a b e =
    let (p, q) = split x y t u h g a b (tail-eq_of_cons-eq e) in
    (ap (λ (z : ℕ). z ∷ x) (head-eq_of_cons-eq e) ∙ ap (λ (l : List ℕ). d ∷ l) p, q)

-- Where no digit follows, a number and what follows it are read in one way.
pub digits_unique : (n m : ℕ) (t u : List ℕ) → NoDigit t → NoDigit u → digits n ++ t ≡ digits m ++ u → (n ≡ m) × (t ≡ u)
digits_unique n m t u a b e =
    let (p, q) = split (digits n) (digits m) t u (all_digits n) (all_digits m) a b e in
    (sym (value_digits n) ∙ ap (value 0) p ∙ value_digits m, q)

-- ── The first digit ──

-- It is 0 of the number 0 alone.
abbrev Leads : ℕ → List ℕ → Type 0
Leads n [] = ⊥
Leads n (b ∷ x) = IsDigit b × (b ≡ 48 → n ≡ 0)

leads : (n : ℕ) → Leads n (digits n)
leads = digits_ind Leads (λ n h. ((omega arith, omega arith), λ e. omega arith)) more
  where
    more : (n : ℕ) (x : List ℕ) → 10 ≤ n → Leads (n / 10) x → Leads n (x ++ ((48 + n % 10) ∷ []))
    more n [] h l = absurd l
    more n (b ∷ x) h (d, l) = (d, λ e. omega (arith, l e))

pub digits-first : (n : ℕ) → (b : ℕ) × (x : List ℕ) × (digits n ≡ b ∷ x) × IsDigit b × (b ≡ 48 → n ≡ 0)
digits-first n = go (digits n) refl (leads n)
  where
    go : (x : List ℕ) → digits n ≡ x → Leads n x → (b : ℕ) × (y : List ℕ) × (digits n ≡ b ∷ y) × IsDigit b × (b ≡ 48 → n ≡ 0)
    go [] e l = absurd l
    go (b ∷ x) e (d, l) = (b, x, e, d, l)

-- ── Numbers up to a closing bracket ──

-- What follows a number is a space or a bracket.
pub ending-no-digit : (xs t : List ℕ) → NoDigit (ending (map digits xs) ++ t)
ending-no-digit [] t = λ d. omega (arith, d)
ending-no-digit (x ∷ xs) t = λ d. omega (arith, d)

pub ending_unique : (xs ys t u : List ℕ) → ending (map digits xs) ++ t ≡ ending (map digits ys) ++ u → (xs ≡ ys) × (t ≡ u)
ending_unique [] [] t u e = (refl, tail-eq_of_cons-eq e)
ending_unique [] (y ∷ ys) t u e = absurd (omega (arith, head-eq_of_cons-eq e))
ending_unique (x ∷ xs) [] t u e = absurd (omega (arith, head-eq_of_cons-eq e))
ending_unique (x ∷ xs) (y ∷ ys) t u e =
    let d = sym (append_assoc (digits x) _ t) ∙ tail-eq_of_cons-eq e ∙ append_assoc (digits y) _ u in
    let (p, q) = digits_unique x y _ _ (ending-no-digit xs t) (ending-no-digit ys u) d in
    let (r, v) = ending_unique xs ys t u q in
    (ap (λ (z : ℕ). z ∷ xs) p ∙ ap (λ (z : List ℕ). y ∷ z) r, v)
