-- Letters and their signals. A letter is a number; signal k holds in it where its bit k is set.
use Rattle.std.specs.Prelude.{Bool, ℕ, ◌/◌, ◌%◌, ◌^◌, eqb}

-- Bit k of a number, counted from 0 at the lowest.
unfoldable pub bit : ℕ → ℕ → Bool
bit n k = eqb (n / 2 ^ k % 2) 1

-- How many signals there are: from 0 on, and below this number.
abbrev pub signals : ℕ
signals = 32
