-- How large a line may be, and where an answer stands in a lent list.
use Rattle.std.specs.Prelude.{List, ◌++◌, ℕ, length, drop}

-- The most bytes of a line, without its end.
abbrev pub most_bytes : ℕ
most_bytes = 16384

-- xs in front of the list l, the rest of l untouched.
abbrev pub front : List ℕ → List ℕ → List ℕ
front xs l = xs ++ drop (length xs) l
