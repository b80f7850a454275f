-- Traces and their moments. A trace is two lists of letters, a lead-in and a loop: with an empty loop it is finite, else the loop repeats for ever.
use Rattle.std.specs.Prelude.{List, [], ◌∷◌, ℕ, zero, suc, ◌+◌, ◌%◌, length, get_or}
use Rattle.std.proofs.Math.Option.{Option, none, some}

-- A trace by its moments: the letter of a moment inside it, and none outside.
abbrev pub Trace : Type 0
Trace = ℕ → Option ℕ

-- The trace of a lead-in and a loop.
unfoldable pub letter_at : List ℕ → List ℕ → Trace
letter_at (x ∷ lead) loop zero = some x
letter_at (x ∷ lead) loop (suc m) = letter_at lead loop m
letter_at [] [] m = none
letter_at [] (y ∷ loop) m = some (get_or (y ∷ loop) (m % length (y ∷ loop)) 0)

-- How many letters the two lists have.
abbrev pub size : List ℕ → List ℕ → ℕ
size lead loop = length lead + length loop

-- Moment m is inside a trace.
abbrev pub Has : Option ℕ → Type 0
Has none = ⊥
Has (some x) = Unit {0}

abbrev pub InTrace : Trace → ℕ → Type 0
InTrace t m = Has (t m)
