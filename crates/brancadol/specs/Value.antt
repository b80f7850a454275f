-- The value of a success.
use Rattle.std.specs.Prelude.{ℕ, ◌+◌, ◌*◌, ◌%◌, Bool, true, false}
use Rattle.trace_lines.specs.declared.Lengths.{Lengths}

-- An accepted table has none.
abbrev pub nothing : Unit {0} → ℕ
nothing x = 0

-- 1 is yes.
abbrev pub verdict : Bool → ℕ
verdict true = 1
verdict false = 0

-- Two lengths, each below 65,536: the lead-in's and then the loop's.
abbrev pub lengths : Lengths → ℕ
lengths x = x.lead % 65536 + 65536 * (x.cycle % 65536)
