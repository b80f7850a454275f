-- The meaning of a PSL formula on a word (PSL 1.1: weak and strong Booleans, abort; negation is judged on the dual word).
use Rattle.std.specs.Prelude.{◌⊎◌, Bool, true, not, ◌&&◌, List, ℕ, ◌<◌, T}
use Rattle.logic.specs.Letter.{bit}
use Rattle.logic.specs.Trace.{letter_at}
use Rattle.logic.specs.Word.{Slot, over, plain, top, bottom, Word, InWord, suffix, dual, cut, word_of}
use Rattle.logic.specs.Formula.{BoolExpr, btrue, var, bnot, band, Formula, weak, strong, fnot, fand, next, until, abort}

-- Whether a letter satisfies a Boolean.
abbrev pub sat : BoolExpr → ℕ → Bool
sat btrue x = true
sat (var k) x = bit x k
sat (bnot b) x = not (sat b x)
sat (band b c) x = sat b x && sat c x

-- TOP satisfies every Boolean, BOTTOM none.
abbrev pub Satisfies : BoolExpr → Slot → Type 0
Satisfies b over = ⊥
Satisfies b (plain x) = T (sat b x)
Satisfies b top = Unit {0}
Satisfies b bottom = ⊥

abbrev pub Holds : Formula → Word → Type 0
Holds (weak b) w = (InWord w 0 → ⊥) ⊎ Satisfies b (w 0)
Holds (strong b) w = InWord w 0 × Satisfies b (w 0)
Holds (fnot f) w = Holds f (dual w) → ⊥
Holds (fand f g) w = Holds f w × Holds g w
Holds (next f) w = InWord w 1 × Holds f (suffix 1 w)
Holds (until f g) w = (k : ℕ) × InWord w k × Holds g (suffix k w) × ((j : ℕ) → j < k → Holds f (suffix j w))
Holds (abort f b) w = Holds f w ⊎ ((j : ℕ) × InWord w j × Satisfies b (w j) × Holds f (cut j w))

-- A formula holds on a trace, given by its lead-in and loop, when it holds on the trace's word.
abbrev pub HoldsOn : Formula → List ℕ → List ℕ → Type 0
HoldsOn f lead loop = Holds f (word_of (letter_at lead loop))
