-- Limits on letters and traces.
use Rattle.std.specs.Prelude.{ℕ}

-- How many bytes a letter has.
abbrev pub letter_bytes : ℕ
letter_bytes = 4

-- The most letters, in both lists together, that a verdict takes.
abbrev pub most_letters : ℕ
most_letters = 64
