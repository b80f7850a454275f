-- The bounds of a run.
use Rattle.std.specs.Prelude.{ℕ, ◌+◌, ◌*◌}
use Rattle.printing.specs.Limits.{most_first, most_later}

-- The most bytes of a block of input, those that it can gather, and the room for these: one answer more would fit, so that none is cut.
abbrev pub most_block : ℕ
most_block = 4096

abbrev pub most_gathered : ℕ
most_gathered = most_first + most_later * most_block

abbrev pub gathering_room : ℕ
gathering_room = most_gathered + most_later

-- The largest number of a line.
abbrev pub most_lines : ℕ
most_lines = 18446744073709551615
