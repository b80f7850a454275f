-- Places in a line of bytes, counted from 0: what stands there, and where nothing of a kind can stand any more. The inner readers promise
-- their results in these terms.
use Rattle.std.specs.Prelude.{◌≡◌, List, [], ◌∷◌, ◌++◌, ℕ, suc, ◌≤◌, length, take, drop}
use Rattle.text.specs.Limits.{most_bytes}

-- A place in a line that is not too long, with no more letters than bytes before it.
pub record CursorIn (s : List ℕ) (at n : ℕ) : Type 0 where
  pub few : n ≤ at
  pub within : at ≤ length s
  pub short : length s ≤ most_bytes

-- w stands in s from place `at` up to place `next`.
pub record Stands (w s : List ℕ) (at next : ℕ) : Type 0 where
  pub is : drop at s ≡ w ++ drop next s
  pub after : at ≤ next
  pub within : next ≤ length s

-- s and s' have the same first n bytes.
pub record Agree (n : ℕ) (s s' : List ℕ) : Type 0 where
  pub is : take n s ≡ take n s'

abbrev pub Language : Type 1
Language = List ℕ → Type 0

-- The one word of one byte.
abbrev pub Only : ℕ → Language
Only b w = w ≡ b ∷ []

-- Some word of a language stands at the front.
abbrev pub Begins : Language → Language
Begins L x = (w : List ℕ) × (t : List ℕ) × L w × (x ≡ w ++ t)

-- The bytes from place `at` up to place p go on to a word of L; and whatever follows byte p, no line of R begins at place `at`.
pub record Halts (L R : Language) (s : List ℕ) (at p : ℕ) : Type 0 where
  pub after : at ≤ p
  pub within : p ≤ length s
  pub begun : (q : List ℕ) × (r : List ℕ) × (drop at s ≡ q ++ drop p s) × L (q ++ r)
  pub none : (s' : List ℕ) → Agree (suc p) s s' → R (drop at s') → ⊥

-- p is the place at which no word of L can stand at `at` any more; or none that ends the line.
abbrev pub Stops : Language → List ℕ → ℕ → ℕ → Type 0
Stops L = Halts L (Begins L)

abbrev pub StopsLine : Language → List ℕ → ℕ → ℕ → Type 0
StopsLine L = Halts L L
