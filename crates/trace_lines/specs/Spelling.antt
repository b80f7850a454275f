-- How traces are spelled.
use Rattle.std.specs.Prelude.{List, [], ◌∷◌, map, ℕ}
use Rattle.text.specs.Text.{text}
use Rattle.text.specs.Spelling.{digits, brackets}

-- A trace as a line has it: its lead-in and its loop.
pub record TraceLists : Type 0 where
  pub lead : List ℕ
  pub loop : List ℕ

-- A trace line, of a lead-in and a loop.
abbrev pub trace_line : List ℕ → List ℕ → List ℕ
trace_line lead [] = brackets (text "finite" ∷ map digits lead)
trace_line lead (x ∷ loop) = brackets (text "lasso" ∷ brackets (map digits lead) ∷ brackets (map digits (x ∷ loop)) ∷ [])

abbrev pub line_of_trace : TraceLists → List ℕ
line_of_trace t = trace_line t.lead t.loop
