-- What a line of bytes is, for any way of spelling: too long, or broken at a place, or the line of some x. Every reader of lines answers in these terms.
use Rattle.std.specs.Prelude.{◌≡◌, List, ◌++◌, ℕ, suc, ◌≤◌, ◌<◌, length, take}
use Rattle.std.proofs.Math.Option.{Option, none, some}
use Rattle.trace.specs.declared.refusal.Refusal.{Refusal}
use Rattle.trace.specs.declared.refusal.Refusal.TheVariants.{LongLine, Shape}
use Rattle.text.specs.Limits.{most_bytes}

-- Some line, of whatever length, begins with the bytes w.
abbrev pub Begun : {X : Type 0} → (X → List ℕ) → List ℕ → Type 0
Begun {X} spelled w = (x : X) × (t : List ℕ) × (spelled x ≡ w ++ t)

-- The bytes before place p, counted from 0, begin some line; with the byte at p no line begins so.
pub record BreaksOff {X : Type 0} (spelled : X → List ℕ) (s : List ℕ) (p : ℕ) : Type 0 where
  pub inside : p < length s
  pub before : Begun spelled (take p s)
  pub after : Begun spelled (take (suc p) s) → ⊥

-- Line s is only cut short: it begins some longer line, and is none itself. The place p is its length.
pub record CutShort {X : Type 0} (spelled : X → List ℕ) (s : List ℕ) (p : ℕ) : Type 0 where
  pub place : p ≡ length s
  pub begun : Begun spelled s
  pub unfinished : (x : X) → s ≡ spelled x → ⊥

-- Line s breaks at place p, in one of the two ways.
pub data Breaks {X : Type 0} (spelled : X → List ℕ) (s : List ℕ) (p : ℕ) : Type 0 where
  off : BreaksOff spelled s p → Breaks spelled s p
  cut : CutShort spelled s p → Breaks spelled s p

pub data Reading {X : Type 0} (spelled : X → List ℕ) (s : List ℕ) : Type 0 where
  long : most_bytes < length s → Reading spelled s
  breaks : length s ≤ most_bytes → (p : ℕ) → Breaks spelled s p → Reading spelled s
  spells : length s ≤ most_bytes → (x : X) → s ≡ spelled x → Reading spelled s

-- The refusal of a line: 17, 18 at the place where it breaks, or what `limits` refuses of what it spells.
abbrev pub line_refusal : {X : Type 0} {spelled : X → List ℕ} {s : List ℕ} → (X → Option Refusal) → Reading spelled s → Option Refusal
line_refusal limits (long h) = some LongLine
line_refusal limits (breaks h p b) = some (Shape p)
line_refusal limits (spells h x e) = limits x

-- Line s is taken as x, and line s is refused by e.
pub record Takes {X : Type 0} (spelled : X → List ℕ) (limits : X → Option Refusal) (s : List ℕ) (x : X) : Type 0 where
  pub short : length s ≤ most_bytes
  pub is : s ≡ spelled x
  pub within : limits x ≡ none

pub record Refuses {X : Type 0} (spelled : X → List ℕ) (limits : X → Option Refusal) (s : List ℕ) (e : Refusal) : Type 0 where
  pub reading : Reading spelled s
  pub reason : line_refusal limits reading ≡ some e
