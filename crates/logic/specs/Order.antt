-- The order of words: from where two words part, the lower is BOTTOM for ever or the higher is TOP for ever.
use Rattle.std.specs.Prelude.{◌≡◌, ℕ, ◌≤◌}
use Rattle.logic.specs.Word.{top, bottom, Word}

-- How w and v compare at k, if w is the lower.
pub data BelowAt (w v : Word) (k : ℕ) : Type 0 where
  low : ((j : ℕ) → k ≤ j → w j ≡ bottom) → BelowAt w v k
  high : ((j : ℕ) → k ≤ j → v j ≡ top) → BelowAt w v k
  same : w k ≡ v k → BelowAt w v k

abbrev pub Below : Word → Word → Type 0
Below w v = (k : ℕ) → BelowAt w v k
