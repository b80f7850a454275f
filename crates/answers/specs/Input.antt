-- The lines of an input.
use Rattle.std.specs.Prelude.{cond, List, [], ◌∷◌, ℕ, eqb}
use Rattle.table.specs.Node.{◌▸◌}

-- The lines that end in further bytes, each by byte 10, and the bytes of the line that does not; o are the bytes of the first line so far.
unfoldable pub ended_after : List ℕ → List ℕ → List (List ℕ)
ended_after o [] = []
ended_after o (b ∷ s) = cond (eqb b 10) (o ∷ ended_after [] s) (ended_after (o ▸ b) s)

unfoldable pub open_after : List ℕ → List ℕ → List ℕ
open_after o [] = o
open_after o (b ∷ s) = cond (eqb b 10) (open_after [] s) (open_after (o ▸ b) s)

abbrev pub ended_lines : List ℕ → List (List ℕ)
ended_lines s = ended_after [] s

abbrev pub open_line : List ℕ → List ℕ
open_line s = open_after [] s

-- A last line may lack byte 10; after a final byte 10 there is no further line; an empty input is one empty line.
abbrev pub with_last : List (List ℕ) → List ℕ → List (List ℕ)
with_last [] o = o ∷ []
with_last (l ∷ ls) [] = l ∷ ls
with_last (l ∷ ls) (b ∷ o) = (l ∷ ls) ▸ (b ∷ o)

abbrev pub input_lines : List ℕ → List (List ℕ)
input_lines s = with_last (ended_lines s) (open_line s)
