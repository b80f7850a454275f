-- What each operation on words does to their bits.
use mathlib.Core.Path.{◌≡◌, refl, sym, ap, ◌∙◌}
use mathlib.Core.Bool.{Bool, true, false, not, ◌&&◌, ◌||◌, and-true}
use Prim.Native.Nat.{ℕ, zero, suc, ◌+◌, ◌-◌, ◌*◌, ◌/◌, ◌%◌, ◌^◌, ◌≤◌, ◌<◌}
use native.Mathlib.Nat.{mod-lt, zero-lt-suc, add-zero, zero-div, div-one, div-eq_of_lt, lt_of_lt_of_le, pow-succ'}
use native.Mathlib.Numerals.{one-add}
use native.Mathlib.Omega.{arith}
use lib.Dec.{eqb}
use lib.Pow.{pow_pos, pow_mono, shr-shr, shl-shr, field, mod-mod-pow}
use lib.Bits.{bit_and, bit_or, and_shr, or_shr, and_mod, or_mod, and_mask, shifted_half, shifted_even}
use Rattle.logic.specs.Letter.{bit}

-- ── By halving ──

pub bit-first : (n : ℕ) → bit n 0 ≡ eqb (n % 2) 1
unfolding bit
bit-first n = ap (λ (x : ℕ). eqb (x % 2) 1) (div-one n)

pub bit-suc : (n k : ℕ) → bit n (suc k) ≡ bit (n / 2) k
unfolding bit
bit-suc n k = ap (λ (x : ℕ). eqb (x % 2) 1) (ap (λ (x : ℕ). n / 2 ^ x) (sym (one-add k)) ∙ sym (shr-shr n 1 k))

-- ── Constants ──

pub bit-zero : (k : ℕ) → bit 0 k ≡ false
unfolding bit
bit-zero k = ap (λ (x : ℕ). eqb (x % 2) 1) (zero-div (2 ^ k))

-- Past a number's digits.
pub bit_past : (n w k : ℕ) → n < 2 ^ w → w ≤ k → bit n k ≡ false
unfolding bit
bit_past n w k h l = ap (λ (x : ℕ). eqb (x % 2) 1) (div-eq_of_lt (lt_of_lt_of_le h (pow_mono l)))

-- ── not ──

odd_flip : (m n : ℕ) → m + n ≡ 1 → eqb m 1 ≡ not (eqb n 1)
odd_flip zero n e = let z : n ≡ 1 = omega arith in rw z
odd_flip (suc zero) n e = let z : n ≡ 0 = omega arith in rw z
odd_flip (suc (suc m)) n e = absurd (omega arith)

pub bit_not : (w k a : ℕ) → a < 2 ^ w → k < w → bit (2 ^ w - 1 - a) k ≡ not (bit a k)
bit_not zero k a h l = absurd (omega arith)
bit_not (suc w) zero a h l =
    bit-first (2 ^ suc w - 1 - a)
    ∙ odd_flip ((2 ^ suc w - 1 - a) % 2) (a % 2) (omega (arith, pow-succ' 2 w)) ∙ ap not (sym (bit-first a))
bit_not (suc w) (suc k) a h l =
    let e : (2 ^ suc w - 1 - a) / 2 ≡ 2 ^ w - 1 - a / 2 = omega (arith, pow-succ' 2 w) in
    bit-suc (2 ^ suc w - 1 - a) k ∙ ap (λ (x : ℕ). bit x k) e
    ∙ bit_not w k (a / 2) (omega (arith, pow-succ' 2 w)) (omega arith) ∙ ap not (sym (bit-suc a k))

pub bit_ones : (w k : ℕ) → k < w → bit (2 ^ w - 1) k ≡ true
bit_ones w k l =
    let e : 2 ^ w - 1 ≡ 2 ^ w - 1 - 0 = omega arith in
    ap (λ (x : ℕ). bit x k) e ∙ bit_not w k 0 (pow_pos w) l ∙ ap not (bit-zero k)

-- ── and, or ──

-- An operation that goes digit by digit, as a Boolean one that agrees with it on the digits 0 and 1.
module _ (op : ℕ → ℕ → ℕ) (by : Bool → Bool → Bool)
    (shr : (a b k : ℕ) → op a b / 2 ^ k ≡ op (a / 2 ^ k) (b / 2 ^ k))
    (rem : (a b k : ℕ) → op a b % 2 ^ k ≡ op (a % 2 ^ k) (b % 2 ^ k))
    (no-no : eqb (op 0 0) 1 ≡ by false false)
    (no-yes : eqb (op 0 1) 1 ≡ by false true)
    (yes-no : eqb (op 1 0) 1 ≡ by true false)
    (yes-yes : eqb (op 1 1) 1 ≡ by true true) where
  digit : (x y : ℕ) → x < 2 → y < 2 → eqb (op x y) 1 ≡ by (eqb x 1) (eqb y 1)
  digit zero zero h l = no-no
  digit zero (suc zero) h l = no-yes
  digit (suc zero) zero h l = yes-no
  digit (suc zero) (suc zero) h l = yes-yes
  digit zero (suc (suc y)) h l = absurd (omega arith)
  digit (suc zero) (suc (suc y)) h l = absurd (omega arith)
  digit (suc (suc x)) y h l = absurd (omega arith)

  bit_by : (a b k : ℕ) → bit (op a b) k ≡ by (bit a k) (bit b k)
  unfolding bit
  bit_by a b k =
      ap (λ (x : ℕ). eqb x 1) (ap (λ (x : ℕ). x % 2) (shr a b k) ∙ rem (a / 2 ^ k) (b / 2 ^ k) 1)
      ∙ digit (a / 2 ^ k % 2) (b / 2 ^ k % 2) (mod-lt (a / 2 ^ k) (zero-lt-suc 1)) (mod-lt (b / 2 ^ k) (zero-lt-suc 1))

pub bit-and : (a b k : ℕ) → bit (bit_and a b) k ≡ bit a k && bit b k
bit-and = bit_by bit_and ◌&&◌ and_shr and_mod refl refl refl refl

pub bit-or : (a b k : ℕ) → bit (bit_or a b) k ≡ bit a k || bit b k
bit-or = bit_by bit_or ◌||◌ or_shr or_mod refl refl refl refl

-- ── Shifts ──

pub bit-shr : (a j k : ℕ) → bit (a / 2 ^ j) k ≡ bit a (j + k)
unfolding bit
bit-shr a j k = ap (λ (x : ℕ). eqb (x % 2) 1) (shr-shr a j k)

-- Bit k is a matter of the 1 + k low digits.
bit_of_lem : (n k : ℕ) → bit n k ≡ eqb (n % 2 ^ (1 + k) / 2 ^ k) 1
unfolding bit
bit_of_lem n k = ap (λ (x : ℕ). eqb x 1) (sym (field n 1 k))

pub bit-mod : (n w k : ℕ) → k < w → bit (n % 2 ^ w) k ≡ bit n k
bit-mod n w k h =
    let e : w ≡ (w - (1 + k)) + (1 + k) = omega arith in
    bit_of_lem (n % 2 ^ w) k
    ∙ ap (λ (x : ℕ). eqb (x / 2 ^ k) 1) (ap (λ (x : ℕ). n % 2 ^ x % 2 ^ (1 + k)) e ∙ mod-mod-pow n (w - (1 + k)) (1 + k))
    ∙ sym (bit_of_lem n k)

low : (a v k : ℕ) → k < v → bit (a * 2 ^ v) k ≡ false
low a zero k h = absurd (omega arith)
low a (suc v) zero h = bit-first (a * 2 ^ suc v) ∙ ap (λ (x : ℕ). eqb x 1) (shifted_even a v)
low a (suc v) (suc k) h = bit-suc (a * 2 ^ suc v) k ∙ ap (λ (x : ℕ). bit x k) (shifted_half a v) ∙ low a v k (omega arith)

-- A word of w bits shifted to the left by v.
pub bit-shl-low : (a v w k : ℕ) → k < v → k < w → bit (a * 2 ^ v % 2 ^ w) k ≡ false
bit-shl-low a v w k h l = bit-mod (a * 2 ^ v) w k l ∙ low a v k h

pub bit-shl : (a v w k : ℕ) → v + k < w → bit (a * 2 ^ v % 2 ^ w) (v + k) ≡ bit a k
bit-shl a v w k l =
    bit-mod (a * 2 ^ v) w (v + k) l ∙ sym (bit-shr (a * 2 ^ v) v k) ∙ ap (λ (x : ℕ). bit x k) (shl-shr a v)

pub test_first : (n : ℕ) → eqb (bit_and n 1) 1 ≡ bit n 0
test_first n = ap (λ (x : ℕ). eqb x 1) (and_mask n 1) ∙ sym (bit-first n)

pub bit_brought : (a k : ℕ) → bit (a / 2 ^ k) 0 ≡ bit a k
bit_brought a k = bit-shr a k 0 ∙ ap (bit a) (add-zero k)

-- One bit, brought to the lowest place.
pub bit-lowest : (a k : ℕ) → bit (bit_and (a / 2 ^ k) 1) 0 ≡ bit a k
bit-lowest a k =
    bit-and (a / 2 ^ k) 1 0 ∙ ap (bit (a / 2 ^ k) 0 &&◌) (bit_ones 1 0 (omega arith)) ∙ and-true (bit (a / 2 ^ k) 0)
    ∙ bit_brought a k
