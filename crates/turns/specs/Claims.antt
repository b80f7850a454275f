-- What holds of a whole run from a reader to a writer, proved in `ClaimsLaw`.
use Rattle.std.specs.Prelude.{◌≡◌, List, ℕ, Some}
use Rattle.turns.specs.Turn.{Whole}

pub record Claims : Type 0 where
  -- A run that came to its end leaves one output: what stood there, and behind it the one text that is printed for the input.
  pub one_output : (input before out out' : List ℕ) → Whole (Some input) (Some before) (Some out) → Whole (Some input) (Some before) (Some out') → out ≡ out'
