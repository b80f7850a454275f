-- What holds of lines, however they are spelled; proved in `ClaimsLaw`.
use Rattle.std.specs.Prelude.{◌≡◌, List, ℕ, ◌≤◌, length}
use Rattle.text.specs.Reading.{Breaks}

pub record Claims : Type 1 where
  -- A line breaks at one place, which is not past its end.
  pub one_place : {X : Type 0} (spelled : X → List ℕ) (s : List ℕ) (p q : ℕ) → Breaks spelled s p → Breaks spelled s q → p ≡ q
  pub within : {X : Type 0} (spelled : X → List ℕ) (s : List ℕ) (p : ℕ) → Breaks spelled s p → p ≤ length s
