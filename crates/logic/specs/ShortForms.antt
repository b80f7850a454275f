-- What the short forms say on a word, from its first letter on. How each is spelled out is in `Written`.
use Rattle.std.specs.Prelude.{◌⊎◌, ◌≡◌, ◌↔◌, List, ℕ, ◌≤◌, ◌<◌}
use Rattle.logic.specs.Trace.{Trace, letter_at}
use Rattle.logic.specs.Word.{Slot, plain, top, bottom, Word, InWord, suffix, dual, cut, word_of}
use Rattle.logic.specs.Formula.{BoolExpr, bnot, btrue, Formula, strong, next}
use Rattle.logic.specs.Meaning.{Satisfies, Holds}
use Rattle.logic.specs.Written.{or, implies, iff, weak_next, eventually, always, weak_until, before}

-- Where an operand stands under an odd number of negations, it is judged on d. On a trace d is w itself.
pub record Says (w d : Word) : Type 0 where
  pub says_or : (f g : Formula) → Holds (or f g) w ↔ (Holds f w ⊎ Holds g w)
  pub says_implies : (f g : Formula) → Holds (implies f g) w ↔ (Holds f d → Holds g w)
  pub says_iff : (f g : Formula) → Holds (iff f g) w ↔ ((Holds f d → Holds g w) × (Holds g d → Holds f w))
  -- If there is a second letter, f holds from there.
  pub says_weak_next : (f : Formula) → Holds (weak_next f) w ↔ (InWord w 1 → Holds f (suffix 1 w))
  -- At some moment inside f holds from there; at every one.
  pub says_eventually : (f : Formula) → Holds (eventually f) w ↔ ((k : ℕ) × InWord w k × Holds f (suffix k w))
  pub says_always : (f : Formula) → Holds (always f) w ↔ ((k : ℕ) → InWord w k → Holds f (suffix k w))
  -- At every moment inside f holds, unless g does or did.
  pub says_weak_until : (f g : Formula)
      → Holds (weak_until f g) w ↔ ((k : ℕ) → InWord w k → Holds f (suffix k w) ⊎ ((j : ℕ) × (j ≤ k) × Holds g (suffix j w)))
  -- At every moment inside at which g holds, f held earlier.
  pub says_before : (f g : Formula)
      → Holds (before f g) w ↔ ((k : ℕ) → InWord w k → Holds g (suffix k d) → (j : ℕ) × (j < k) × Holds f (suffix j w))

-- They say so on every trace, finite, looping or empty, of any length, from any moment on.
abbrev pub ShortForms : Type 0
ShortForms = (lead loop : List ℕ) (i : ℕ) → let w = suffix i (word_of (letter_at lead loop)) in Says w w

-- ── Words with TOP or BOTTOM: only the operand of an abort, and what stands in it, is judged on them ──

-- The words that come up when a formula is judged on a trace: `Holds` judges an operand on the same word, a suffix, the dual or a cut.
pub data Arises : Word → Type 0 where
  by_trace : (lead loop : List ℕ) → Arises (word_of (letter_at lead loop))
  by_suffix : (w : Word) (j : ℕ) → Arises w → Arises (suffix j w)
  by_dual : (w : Word) → Arises w → Arises (dual w)
  by_cut : (w : Word) (j : ℕ) (b : BoolExpr) → Satisfies b (w j) → Arises w → Arises (cut j w)

abbrev pub ever : Slot → Word
ever s = λ k. s

pub record BeyondTraces : Type 0 where
  -- On all of these d is the dual, which on a trace is w itself.
  pub says : (w : Word) → Arises w → Says w (dual w)
  pub dual_trace : (t : Trace) → dual (word_of t) ≡ word_of t
  -- On these three w itself for d would be wrong.
  pub three_arise : Arises (ever bottom) × Arises (ever top) × Arises (cut 1 (ever (plain 0)))
  -- On BOTTOM for ever no formula holds, neither these three nor their operands.
  pub bottom_implies : (f g : Formula) → let w = ever bottom in (Holds (implies f g) w ↔ (Holds f w → Holds g w)) → ⊥
  pub bottom_iff : (f g : Formula) → let w = ever bottom in (Holds (iff f g) w ↔ (Holds f w ↔ Holds g w)) → ⊥
  pub bottom_before : (f g : Formula) → let w = ever bottom in
      (Holds (before f g) w ↔ ((k : ℕ) → InWord w k → Holds g (suffix k w) → (j : ℕ) × (j < k) × Holds f (suffix j w))) → ⊥
  -- On TOP for ever every formula holds, so before f g does, though g holds at moment 0 and no moment is earlier.
  pub top_before : (f g : Formula) → let w = ever top in
      (Holds (before f g) w ↔ ((k : ℕ) → InWord w k → Holds g (suffix k w) → (j : ℕ) × (j < k) × Holds f (suffix j w))) → ⊥
  -- On a letter followed by TOP for ever next g holds and g does not. On the dual next g fails too, so implies and iff hold.
  pub top_implies : let w = cut 1 (ever (plain 0)) in let g = strong (bnot btrue) in
      (Holds (implies (next g) g) w ↔ (Holds (next g) w → Holds g w)) → ⊥
  pub top_iff : let w = cut 1 (ever (plain 0)) in let g = strong (bnot btrue) in
      (Holds (iff (next g) g) w ↔ (Holds (next g) w ↔ Holds g w)) → ⊥
