-- How many bytes the printed texts have at most.
use Rattle.std.specs.Prelude.{ℕ}

-- No answer prints more bytes, and none but that to line 1 more than `most_later`.
abbrev pub most_first : ℕ
most_first = 107000

abbrev pub most_later : ℕ
most_later = 60

-- No verdict's word has more.
abbrev pub longest_verdict : ℕ
longest_verdict = 4
