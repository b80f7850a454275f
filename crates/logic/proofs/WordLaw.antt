-- Laws of words.
use Prim.Native.Nat.{ℕ, ◌≤◌, ◌<◌}
use mathlib.Core.Path.{◌≡◌, refl, ap, fun_ext}
use mathlib.Core.Option.{Option, none, some}
use native.Mathlib.Nat.{zero-add}
use borrow.Author.Tests.{le-ltb, lt-ltb}
use Rattle.logic.specs.Trace.{Trace}
use Rattle.logic.specs.Word.{Slot, over, plain, top, bottom, Word, suffix, flip, dual, cut, slot_of, word_of}

pub suffix-zero : (w : Word) → suffix 0 w ≡ w
suffix-zero w = fun_ext (λ k. ap w (zero-add k))

pub cut_before : (w : Word) (j k : ℕ) → k < j → cut j w k ≡ w k
cut_before w j k h = simp (lt-ltb k j h)

-- A cut word is TOP from the cut on.
pub cut-past : (w : Word) (j k : ℕ) → j ≤ k → cut j w k ≡ top
cut-past w j k h = simp (le-ltb k j h)

pub flip_flip : (s : Slot) → flip (flip s) ≡ s
flip_flip over = refl
flip_flip (plain x) = refl
flip_flip top = refl
flip_flip bottom = refl

pub dual_dual : (w : Word) → dual (dual w) ≡ w
dual_dual w = fun_ext (λ k. flip_flip (w k))

-- The word of a trace has neither TOP nor BOTTOM.
pub dual_trace : (t : Trace) → dual (word_of t) ≡ word_of t
dual_trace t = fun_ext (λ k. go (t k))
  where
    go : (x : Option ℕ) → flip (slot_of x) ≡ slot_of x
    go none = refl
    go (some n) = refl
