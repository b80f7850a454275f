-- Refusals, and which of several applies: the first.
use Rattle.std.specs.Prelude.{◌≡◌, Bool, true, false, ℕ, zero, suc, ◌<◌, Option as Maybe, None, Some}
use Rattle.std.proofs.Math.Option.{Option, none, some}
use Rattle.trace.specs.declared.refusal.Refusal.{Refusal}
use Rattle.trace.specs.declared.refusal.Refusal.TheVariants.{PslLength, PslKind, PslUnused, PslSignal, PslOperand, PslSort, PslUse, PslRoot, LongTrace, TableRoom, LtlLength, LtlKind, LtlUnused, LtlSignal, LtlOperand, EmptyTrace, LongLine, Shape, ManyNodes, LargeSignal, LargeLetter, ManyLetters, ListRoom, LineRoom, NoMoment}

-- The number of each refusal, and the place that it carries: the number of a node, or where a line breaks.
abbrev pub told : Refusal → ℕ × Maybe ℕ
told PslLength = (1, None)
told (PslKind i) = (2, Some i)
told (PslUnused i) = (3, Some i)
told (PslSignal i) = (4, Some i)
told (PslOperand i) = (5, Some i)
told (PslSort i) = (6, Some i)
told (PslUse i) = (7, Some i)
told (PslRoot i) = (8, Some i)
told LongTrace = (9, None)
told TableRoom = (10, None)
told LtlLength = (11, None)
told (LtlKind i) = (12, Some i)
told (LtlUnused i) = (13, Some i)
told (LtlSignal i) = (14, Some i)
told (LtlOperand i) = (15, Some i)
told EmptyTrace = (16, None)
told LongLine = (17, None)
told (Shape p) = (18, Some p)
told ManyNodes = (19, None)
told LargeSignal = (20, None)
told LargeLetter = (21, None)
told ManyLetters = (22, None)
told ListRoom = (23, None)
told LineRoom = (24, None)
told NoMoment = (25, None)

abbrev pub number : Refusal → ℕ
number x = (told x).0

abbrev pub place : Refusal → Maybe ℕ
place x = (told x).1

-- The refusal x unless a test is passed, then o.
abbrev pub unless : Bool → Refusal → Option Refusal → Option Refusal
unless true x o = o
unless false x o = some x

-- The first refusal of two, and the first of those for the numbers below n.
abbrev pub or_else : Option Refusal → Option Refusal → Option Refusal
or_else none o = o
or_else (some x) o = some x

unfoldable pub lowest : (ℕ → Option Refusal) → ℕ → Option Refusal
lowest f zero = none
lowest f (suc n) = or_else (lowest f n) (f n)

-- Of the numbers below n, i is the lowest that is refused, and x is what it is refused by.
pub record IsLowest (f : ℕ → Option Refusal) (n : ℕ) (x : Refusal) (i : ℕ) : Type 0 where
  pub inside : i < n
  pub refused : f i ≡ some x
  pub lowest : lowest f i ≡ none
