-- What refusals are told by: each number is below 256, and no two refusals have both number and place alike.
use mathlib.Core.Path.{◌≡◌, refl, sym, ap, ◌∙◌}
use mathlib.Core.List.{[], ◌∷◌}
use Prim.Native.Nat.{ℕ, ◌<◌}
use native.Mathlib.Omega.{arith}
use Rattle.std.specs.Prelude.{get_or, Option as Maybe, Some, None}
use Rattle.trace.specs.declared.refusal.Refusal.{Refusal}
use Rattle.trace.specs.declared.refusal.Refusal.TheVariants.{PslLength, PslKind, PslUnused, PslSignal, PslOperand, PslSort, PslUse, PslRoot, LongTrace, TableRoom, LtlLength, LtlKind, LtlUnused, LtlSignal, LtlOperand, EmptyTrace, LongLine, Shape, ManyNodes, LargeSignal, LargeLetter, ManyLetters, ListRoom, LineRoom, NoMoment}
use Rattle.trace.specs.Refusal.{told, number}

pub number_small : (x : Refusal) → number x < 256
number_small PslLength = omega arith
number_small (PslKind i) = omega arith
number_small (PslUnused i) = omega arith
number_small (PslSignal i) = omega arith
number_small (PslOperand i) = omega arith
number_small (PslSort i) = omega arith
number_small (PslUse i) = omega arith
number_small (PslRoot i) = omega arith
number_small LongTrace = omega arith
number_small TableRoom = omega arith
number_small LtlLength = omega arith
number_small (LtlKind i) = omega arith
number_small (LtlUnused i) = omega arith
number_small (LtlSignal i) = omega arith
number_small (LtlOperand i) = omega arith
number_small EmptyTrace = omega arith
number_small LongLine = omega arith
number_small (Shape i) = omega arith
number_small ManyNodes = omega arith
number_small LargeSignal = omega arith
number_small LargeLetter = omega arith
number_small ManyLetters = omega arith
number_small ListRoom = omega arith
number_small LineRoom = omega arith
number_small NoMoment = omega arith

-- The refusal of a number, at place i where it carries one.
abbrev numbered : ℕ → ℕ → Refusal
numbered n i =
    get_or (
    NoMoment
    ∷ PslLength
    ∷ PslKind i
    ∷ PslUnused i
    ∷ PslSignal i
    ∷ PslOperand i
    ∷ PslSort i
    ∷ PslUse i
    ∷ PslRoot i
    ∷ LongTrace
    ∷ TableRoom
    ∷ LtlLength
    ∷ LtlKind i
    ∷ LtlUnused i
    ∷ LtlSignal i
    ∷ LtlOperand i
    ∷ EmptyTrace
    ∷ LongLine
    ∷ Shape i
    ∷ ManyNodes
    ∷ LargeSignal
    ∷ LargeLetter
    ∷ ManyLetters
    ∷ ListRoom
    ∷ LineRoom
    ∷ NoMoment
    ∷ []
    ) n NoMoment

abbrev named : ℕ × Maybe ℕ → Refusal
named (n, None) = numbered n 0
named (n, Some i) = numbered n i

named_told : (x : Refusal) → named (told x) ≡ x
named_told PslLength = refl
named_told (PslKind i) = refl
named_told (PslUnused i) = refl
named_told (PslSignal i) = refl
named_told (PslOperand i) = refl
named_told (PslSort i) = refl
named_told (PslUse i) = refl
named_told (PslRoot i) = refl
named_told LongTrace = refl
named_told TableRoom = refl
named_told LtlLength = refl
named_told (LtlKind i) = refl
named_told (LtlUnused i) = refl
named_told (LtlSignal i) = refl
named_told (LtlOperand i) = refl
named_told EmptyTrace = refl
named_told LongLine = refl
named_told (Shape i) = refl
named_told ManyNodes = refl
named_told LargeSignal = refl
named_told LargeLetter = refl
named_told ManyLetters = refl
named_told ListRoom = refl
named_told LineRoom = refl
named_told NoMoment = refl

pub one_refusal : (x y : Refusal) → told x ≡ told y → x ≡ y
one_refusal x y e = sym (named_told x) ∙ ap named e ∙ named_told y
