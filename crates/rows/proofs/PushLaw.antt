-- A row with one bit more put below it.
use Rattle.std.proofs.Common.{◌≡◌, ℕ, suc, ◌*◌, ◌/◌, ◌%◌, ◌^◌, ◌<◌, ◌||◌, sym, ap, ◌∙◌, ap₂, one-add, arith}
use mathlib.Core.Bool.{or-false}
use lib.Bits.{bit_and, bit_or, mask_lt}
use Rattle.logic.specs.Letter.{bit}
use Rattle.logic.proofs.BitLaw.{bit_past, bit-or, bit-shl-low, bit-shl, bit-lowest}
use Rattle.trace.specs.Limits.{most_letters}

-- The word w with bit k of x put below it.
abbrev pub pushed : ℕ → ℕ → ℕ → ℕ
pushed w x k = bit_or (w * 2 ^ 1 % 2 ^ most_letters) (bit_and (x / 2 ^ k) 1)

pub pushed_last : (w x k : ℕ) → bit (pushed w x k) 0 ≡ bit x k
pushed_last w x k = bit-or _ (bit_and (x / 2 ^ k) 1) 0 ∙ ap₂ ◌||◌ (bit-shl-low w 1 most_letters 0 (omega arith) (omega arith)) (bit-lowest x k)

pub bit_double : (w m : ℕ) → suc m < most_letters → bit (w * 2 ^ 1 % 2 ^ most_letters) (suc m) ≡ bit w m
bit_double w m l = ap (bit (w * 2 ^ 1 % 2 ^ most_letters)) (sym (one-add m)) ∙ bit-shl w 1 most_letters m (omega arith)

pub pushed_before : (w x k m : ℕ) → suc m < most_letters → bit (pushed w x k) (suc m) ≡ bit w m
pushed_before w x k m l =
    bit-or _ (bit_and (x / 2 ^ k) 1) (suc m)
    ∙ ap₂ ◌||◌ (bit_double w m l) (bit_past (bit_and (x / 2 ^ k) 1) 1 (suc m) (mask_lt (x / 2 ^ k) 1) (omega arith))
    ∙ or-false (bit w m)
