-- Until as the carries of a sum: the sum of f | g and g, and what comes in below the lowest bit.
use Rattle.std.proofs.Common.{◌≡◌, ℕ, zero, suc, ◌+◌, ◌-◌, ◌/◌, ◌%◌, ◌^◌, ◌<◌, Bool, not, ◌&&◌, ◌||◌, eqb, sym, refl, ap, ◌∙◌, ap₂, mod-lt, zero-lt-suc, arith, pow_pos}
use native.Mathlib.Nat.{mod-add-mod}
use lib.Bits.{bit_and, bit_or, or_shr, or_mod, mask_lt}
use Rattle.logic.specs.Letter.{bit}
use Rattle.trace.specs.Limits.{most_letters}
use Rattle.rows.specs.Inner.Rows.{Swept}
use Rattle.logic.proofs.BitLaw.{bit-first, bit-suc, bit_not, bit-and, bit-or, bit-mod, test_first}

abbrev sum : ℕ → ℕ → ℕ → ℕ
sum f g c = bit_or f g + g + c

-- Until at a bit: the second operand, or the first where the sum has no bit.
abbrev found : ℕ → ℕ → ℕ → ℕ → Bool
found f g c m = bit g m || bit f m && not (bit (sum f g c) m)

-- ── The lowest bit ──

-- What the lowest bits of f and g carry on.
abbrev out : ℕ → ℕ → ℕ → ℕ
out f g c = (bit_or (f % 2) (g % 2) + g % 2 + c) / 2

digit-found : (x y c : ℕ) → x < 2 → y < 2 → c < 2
    → eqb y 1 || eqb x 1 && not (eqb ((bit_or x y + y + c) % 2) 1) ≡ eqb y 1 || eqb x 1 && eqb c 1
digit-found zero zero c h l k = refl
digit-found zero (suc zero) c h l k = refl
digit-found (suc zero) zero zero h l k = refl
digit-found (suc zero) zero (suc zero) h l k = refl
digit-found (suc zero) (suc zero) c h l k = refl
digit-found zero (suc (suc y)) c h l k = absurd (omega arith)
digit-found (suc zero) (suc (suc y)) c h l k = absurd (omega arith)
digit-found (suc zero) zero (suc (suc c)) h l k = absurd (omega arith)
digit-found (suc (suc x)) y c h l k = absurd (omega arith)

digit_out : (x y c : ℕ) → x < 2 → y < 2 → c < 2 → eqb ((bit_or x y + y + c) / 2) 1 ≡ eqb y 1 || eqb x 1 && eqb c 1
digit_out zero zero zero h l k = refl
digit_out zero zero (suc zero) h l k = refl
digit_out zero (suc zero) zero h l k = refl
digit_out zero (suc zero) (suc zero) h l k = refl
digit_out (suc zero) zero zero h l k = refl
digit_out (suc zero) zero (suc zero) h l k = refl
digit_out (suc zero) (suc zero) zero h l k = refl
digit_out (suc zero) (suc zero) (suc zero) h l k = refl
digit_out zero zero (suc (suc c)) h l k = absurd (omega arith)
digit_out zero (suc zero) (suc (suc c)) h l k = absurd (omega arith)
digit_out (suc zero) zero (suc (suc c)) h l k = absurd (omega arith)
digit_out (suc zero) (suc zero) (suc (suc c)) h l k = absurd (omega arith)
digit_out zero (suc (suc y)) c h l k = absurd (omega arith)
digit_out (suc zero) (suc (suc y)) c h l k = absurd (omega arith)
digit_out (suc (suc x)) y c h l k = absurd (omega arith)

module _ (f g c : ℕ) (h : c < 2) where
  half : sum f g c / 2 ≡ sum (f / 2) (g / 2) (out f g c)
  half = omega (arith, or_mod f g 1, or_shr f g 1)

  odd : sum f g c % 2 ≡ (bit_or (f % 2) (g % 2) + g % 2 + c) % 2
  odd = omega (arith, or_mod f g 1)

  out_small : out f g c < 2
  out_small = omega (arith, or_mod f g 1)

  found_first : found f g c 0 ≡ bit g 0 || bit f 0 && eqb c 1
  found_first =
      rw (bit-first g, bit-first f, bit-first (sum f g c), odd)
      (digit-found (f % 2) (g % 2) c (mod-lt f (zero-lt-suc 1)) (mod-lt g (zero-lt-suc 1)) h)

  out_found : eqb (out f g c) 1 ≡ found f g c 0
  out_found =
      digit_out (f % 2) (g % 2) c (mod-lt f (zero-lt-suc 1)) (mod-lt g (zero-lt-suc 1)) h
      ∙ sym (found_first ∙ ap₂ (λ (b a : Bool). b || a && eqb c 1) (bit-first g) (bit-first f))

  found-suc : (m : ℕ) → found f g c (suc m) ≡ found (f / 2) (g / 2) (out f g c) m
  found-suc m = rw (bit-suc g m, bit-suc f m, bit-suc (sum f g c) m, half)

-- ── The step ──

found_step : (m f g c : ℕ) → c < 2 → found f g c (suc m) ≡ bit g (suc m) || bit f (suc m) && found f g c m
found_step zero f g c h =
    found-suc f g c h 0 ∙ found_first (f / 2) (g / 2) (out f g c) (out_small f g c h)
    ∙ ap₂ (λ (b a : Bool). b || a && eqb (out f g c) 1) (sym (bit-suc g 0)) (sym (bit-suc f 0))
    ∙ ap (λ (b : Bool). bit g 1 || bit f 1 && b) (out_found f g c h)
found_step (suc m) f g c h =
    found-suc f g c h (suc m) ∙ found_step m (f / 2) (g / 2) (out f g c) (out_small f g c h)
    ∙ ap₂ (λ (b a : Bool). b || a && found (f / 2) (g / 2) (out f g c) m) (sym (bit-suc g (suc m))) (sym (bit-suc f (suc m)))
    ∙ ap (λ (b : Bool). bit g (suc (suc m)) || bit f (suc (suc m)) && b) (sym (found-suc f g c h m))

-- ── In a word ──

module _ (f g carry : ℕ) where
  abbrev word : ℕ
  word = ((bit_or f g + g) % 2 ^ most_letters + bit_and carry 1) % 2 ^ most_letters

  abbrev row : ℕ
  row = bit_or g (bit_and f (2 ^ most_letters - 1 - word))

  row-bit : (m : ℕ) → m < most_letters → bit row m ≡ found f g (bit_and carry 1) m
  row-bit m h =
      bit-or g _ m
      ∙ ap (bit g m ||◌) (bit-and f _ m ∙ ap (bit f m &&◌) (bit_not most_letters m word (mod-lt _ (pow_pos most_letters)) h ∙ ap not (in_word m h)))
    where
      in_word : (m : ℕ) → m < most_letters → bit word m ≡ bit (sum f g (bit_and carry 1)) m
      in_word m h = ap (λ (x : ℕ). bit x m) (mod-add-mod (bit_or f g + g) (2 ^ most_letters) (bit_and carry 1)) ∙ bit-mod (sum f g (bit_and carry 1)) most_letters m h

  pub swept : Swept f g (bit carry 0) row
  swept =
      record {
        last =
            row-bit 0 (omega arith) ∙ found_first f g (bit_and carry 1) (mask_lt carry 1)
            ∙ ap (λ (b : Bool). bit g 0 || bit f 0 && b) (test_first carry);
        before = λ m h.
            row-bit (suc m) h ∙ found_step m f g (bit_and carry 1) (mask_lt carry 1)
            ∙ ap (λ (b : Bool). bit g (suc m) || bit f (suc m) && b) (sym (row-bit m (omega arith)));
      }
