-- An answer as one number of 64 bits: a number and 256 × a value.
use Rattle.std.specs.Prelude.{ℕ, ◌+◌, ◌*◌, ◌%◌, Bool, Option as Maybe, None, Some, Result, Ok, Err}
use Rattle.trace.specs.declared.refusal.Refusal.{Refusal}
use Rattle.trace.specs.Refusal.{number, place}
use Rattle.trace_lines.specs.declared.Lengths.{Lengths}
use Rattle.brancadol.specs.Value.{nothing, verdict, lengths}

-- The value has 56 bits: no count reaches 2^56, and no length of a list in memory.
abbrev pub code : ℕ → ℕ → ℕ
code number value = number + 256 * (value % 72057594037927936)

-- A success has the number 0 and the value that the operation gives.
abbrev pub success_code : ℕ → ℕ
success_code value = code 0 value

-- A refusal has its number, and the value 0 or, where it carries a place, 1 + the place.
abbrev pub place_value : Maybe ℕ → ℕ
place_value None = 0
place_value (Some p) = 1 + p

abbrev pub refusal_code : Refusal → ℕ
refusal_code x = code (number x) (place_value (place x))

-- The code of any answer, by the value of its success.
abbrev pub answer_code : {A : Type 0} → (A → ℕ) → Result A Refusal → ℕ
answer_code value (Ok x) = success_code (value x)
answer_code value (Err x) = refusal_code x

-- The letter itself goes into the lent place.
abbrev pub found_code : Result ℕ Refusal → ℕ
found_code = answer_code (λ (x : ℕ). 0)

abbrev pub checked_code : Result (Unit {0}) Refusal → ℕ
checked_code = answer_code nothing

abbrev pub verdict_code : Result Bool Refusal → ℕ
verdict_code = answer_code verdict

-- The nodes of a table, or the bytes of a line.
abbrev pub count_code : Result ℕ Refusal → ℕ
count_code = answer_code (λ (n : ℕ). n)

abbrev pub trace_code : Result Lengths Refusal → ℕ
trace_code = answer_code lengths
