-- The worked run is as the paper prints it.
use Prim.Native.Nat.{ℕ, zero, suc}
use mathlib.Core.Path.{refl}
use mathlib.Core.Logic.{inl, inr}
use mathlib.Core.List.{[], ◌∷◌}
use Rattle.logic.specs.Letter.{bit}
use Rattle.logic.specs.Trace.{letter_at}
use Rattle.logic.specs.Word.{word_of}
use Rattle.logic.specs.Formula.{var}
use Rattle.psl.specs.Size.{weigh, weigh_b}
use Rattle.logic.specs.Meaning.{Satisfies}
use Rattle.psl.specs.Table.{formula_of, part_of}
use Rattle.translate.specs.Emitted.{walked_b, walked, emitted, added_by}
use Rattle.translate.specs.Worked.{Worked}

-- Signal 0 is set in neither letter of the second trace.
unset : (j : ℕ) → Satisfies (var 0) (word_of (letter_at (0 ∷ 0 ∷ []) []) j) → ⊥
unfolding letter_at bit
unset zero h = h
unset (suc zero) h = h
unset (suc (suc j)) h = h

pub worked : Worked
unfolding letter_at bit weigh weigh_b formula_of part_of walked_b walked emitted added_by
worked =
    record {
      reads = refl;
      size = refl;
      table = refl;
      trace1 = inr (0, tt, tt, (tt, (tt, tt)));
      trace2 = λ h. elim h [ inl x ↦ x.1.1 | inr y ↦ unset y.0 y.2 ];
      trace3 = inl (tt, (tt, tt));
      trace4 = λ h. elim h [ inl x ↦ x.0 | inr y ↦ y.1 ];
    }
