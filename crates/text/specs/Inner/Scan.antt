-- What the readers of bytes, words, digits and numbers promise.
use Rattle.std.specs.Prelude.{◌≡◌, Bool, true, false, Option, Some, None, Result, Ok, Err, List, [], ◌∷◌, ℕ, ◌+◌, ◌≤◌, ◌<◌, length, drop}
use Rattle.text.specs.Spelling.{digits}
use Rattle.text.specs.Inner.Places.{Stands, Halts, Stops, Only}
use Rattle.text.specs.Inner.Number.{NoDigit, Numeral, Numbered}
use Rattle.text.specs.declared.scan.Fault.{Fault}

-- The byte b stands from `at` up to `next`; or the place stays, and b can't stand there.
abbrev pub ByteRead : ℕ → List ℕ → ℕ → ℕ → Bool → Type 0
ByteRead b s at next true = Stands (b ∷ []) s at next
ByteRead b s at next false = (next ≡ at) × (at ≤ length s → Stops (Only b) s at at)

-- A word stands whole up to `next`; or the place stays, and the word breaks off at the fault. Past the line's end nothing stands.
pub record WordStands (w s : List ℕ) (at next : ℕ) : Type 0 where
  pub ends : next ≡ at + length w
  pub stands : at ≤ length s → Stands w s at next
  pub past : length s < at → next ≡ at

abbrev pub WordRead : List ℕ → List ℕ → ℕ → ℕ → Result Unit Fault → Type 0
WordRead w s at next (Ok u) = WordStands w s at next
WordRead w s at next (Err f) = (next ≡ at) × (at ≤ length s → Stops (λ v. v ≡ w) s at f.0) × (length s < at → f.0 ≡ at)

-- The line is over; or it has a byte at the place, which is the fault.
abbrev pub EndRead : List ℕ → ℕ → Result Unit Fault → Type 0
EndRead s at (Ok u) = length s ≤ at
EndRead s at (Err f) = (at < length s) × (f.0 ≡ at)

-- The digit at a place, and the place behind it; or there is none, and the place stays.
abbrev pub DigitRead : List ℕ → ℕ → ℕ → Option ℕ → Type 0
DigitRead s at next (Some d) = (d < 10) × (next ≡ at + 1) × Stands ((48 + d) ∷ []) s at next
DigitRead s at next None = NoDigit (drop at s) × (next ≡ at)

-- n is a value within the limit, or it is above.
abbrev pub Counts : ℕ → ℕ → Option ℕ → Type 0
Counts limit n (Some v) = (n ≡ v) × (v ≤ limit)
Counts limit n None = limit < n

-- n stands from `at` up to `next`, and no digit follows it.
pub record NumberStands (n : ℕ) (s : List ℕ) (at next : ℕ) : Type 0 where
  pub stands : Stands (digits n) s at next
  pub more : at < next
  pub ends : NoDigit (drop next s)

-- A number up to `next`; or the place stays, and the fault is the place at which none can follow any more, which is `at` itself past the line's end.
abbrev pub NumberRead : List ℕ → ℕ → ℕ → ℕ → Result (Option ℕ) Fault → Type 0
NumberRead s at limit next (Ok v) = (n : ℕ) × Counts limit n v × NumberStands n s at next
NumberRead s at limit next (Err f) = (next ≡ at) × (at ≤ length s → Halts Numeral Numbered s at f.0) × (length s < at → f.0 ≡ at)

-- The line is the digits of a number; or of none that has 64 bits.
abbrev pub DecimalRead : List ℕ → Option ℕ → Type 0
DecimalRead s (Some n) = s ≡ digits n
DecimalRead s None = (n : ℕ) → n ≤ 18446744073709551615 → s ≡ digits n → ⊥
