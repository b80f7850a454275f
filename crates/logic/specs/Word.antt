-- Words over letters and the two special letters TOP and BOTTOM, which serve the meaning of a PSL formula only.
use Rattle.std.specs.Prelude.{cond, ℕ, ◌+◌, ltb}
use Rattle.std.proofs.Math.Option.{Option, none, some}
use Rattle.logic.specs.Trace.{Trace}

-- What stands at a moment of a word: a letter, TOP, BOTTOM, or nothing once the word is over.
pub data Slot : Type 0 where
  over : Slot
  plain : ℕ → Slot
  top bottom : Slot

abbrev pub Word : Type 0
Word = ℕ → Slot

abbrev pub filled : Slot → Type 0
filled over = ⊥
filled (plain x) = Unit {0}
filled top = Unit {0}
filled bottom = Unit {0}

-- Moment k is inside a word.
abbrev pub InWord : Word → ℕ → Type 0
InWord w k = filled (w k)

-- From the letter of moment j on.
abbrev pub suffix : ℕ → Word → Word
suffix j w = λ k. w (j + k)

-- The dual of a word exchanges TOP and BOTTOM.
abbrev pub flip : Slot → Slot
flip over = over
flip (plain x) = plain x
flip top = bottom
flip bottom = top

abbrev pub dual : Word → Word
dual w = λ k. flip (w k)

-- The first j letters followed by TOP for ever.
abbrev pub cut : ℕ → Word → Word
cut j w = λ k. cond (ltb k j) (w k) top

-- The word of a trace: its letters in order.
abbrev pub slot_of : Option ℕ → Slot
slot_of none = over
slot_of (some x) = plain x

abbrev pub word_of : Trace → Word
word_of t = λ k. slot_of (t k)
