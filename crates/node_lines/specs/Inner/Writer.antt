-- What the inner writers of a node promise.
use Rattle.std.specs.Prelude.{◌≡◌, ◌≤◌, List, ◌++◌, ℕ, map}
use Rattle.text.specs.Text.{text}
use Rattle.text.specs.Spelling.{digits, ending}
use Rattle.table.specs.Rules.{Use, unused, signal, operand}
use Rattle.node_lines.specs.Spelling.{ltl_word, ltl_places}

-- 1 where a place is used.
abbrev pub used : Use → ℕ
used unused = 0
used signal = 1
used (operand b) = 1

-- The word w of a number that stands for a kind, and the count n of the places that it uses.
pub record Spelled (kind : ℕ) (w : List ℕ) (n : ℕ) : Type 0 where
  pub word : w ≡ ltl_word kind
  pub places : n ≡ ltl_places kind
  pub most : n ≤ 2

-- Numbers, a space before each, the closing bracket and byte 10.
abbrev pub line_end : List ℕ → List ℕ
line_end xs = ending (map digits xs) ++ text "\n"
