-- Which words may stand at a place: each has a kind, and the kinds are a list.
use Rattle.std.specs.Prelude.{Bool, List, ℕ, eqb}
use Rattle.std.specs.List.{list_any}

abbrev pub elem : ℕ → List ℕ → Bool
elem k ks = list_any (λ j. eqb j k) ks
