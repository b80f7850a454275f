-- Decimal numbers as the reader meets them.
use Rattle.std.specs.Prelude.{◌≡◌, List, [], ◌∷◌, ◌++◌, ℕ, ◌≤◌}
use Rattle.text.specs.Spelling.{digits}
use Rattle.text.specs.Inner.Places.{Language}

abbrev pub IsDigit : ℕ → Type 0
IsDigit b = (48 ≤ b) × (b ≤ 57)

-- No digit follows.
abbrev pub NoDigit : List ℕ → Type 0
NoDigit [] = Unit {0}
NoDigit (b ∷ s) = IsDigit b → ⊥

-- Some number.
abbrev pub Numeral : Language
Numeral w = (n : ℕ) × (w ≡ digits n)

-- A number stands at the front, and no digit follows it.
abbrev pub Numbered : Language
Numbered x = (n : ℕ) × (t : List ℕ) × NoDigit t × (x ≡ digits n ++ t)
