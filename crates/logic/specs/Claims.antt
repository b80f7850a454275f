-- What is proved of the meanings, in one list.
use Rattle.std.specs.Prelude.{◌⊎◌, ◌↔◌, List, [], ℕ, suc, ◌<◌, T, length}
use Rattle.logic.specs.Trace.{Trace, letter_at, size, InTrace}
use Rattle.logic.specs.Word.{top, bottom, Word, InWord}
use Rattle.logic.specs.Formula.{BoolExpr, Formula, weak, strong, next, until}
use Rattle.logic.specs.Meaning.{Holds, HoldsOn}
use Rattle.logic.specs.KnownVerdicts.{KnownVerdicts}
use Rattle.logic.specs.Empty.{on_empty}
use Rattle.logic.specs.Order.{Below}
use Rattle.logic.specs.Tree.{Ltl, luntil}
use Rattle.logic.specs.LtlMeaning.{LtlHolds, LtlHoldsOn}
use Rattle.logic.specs.BorderFacts.{BorderFacts}
use Rattle.logic.specs.Translation.{translation}
use Rattle.logic.specs.ShortForms.{ShortForms, BeyondTraces}

pub record Claims : Type 0 where
  -- On a trace with a loop every moment is inside; on a finite one the moments below its length are, and no others.
  pub looping : (lead loop : List ℕ) (m : ℕ) → 0 < length loop → InTrace (letter_at lead loop) m
  pub finite : (lead : List ℕ) (m : ℕ) → InTrace (letter_at lead []) m ↔ (m < length lead)
  -- PSL: the sentences with known verdicts, c1 to c12.
  pub known_verdicts : KnownVerdicts
  -- Every formula holds on TOP for ever, and none on BOTTOM for ever; what holds on a word holds on every better one.
  pub top_holds : (f : Formula) → Holds f (λ k. top)
  pub bottom_fails : (f : Formula) → Holds f (λ k. bottom) → ⊥
  pub in_order : (f : Formula) (w v : Word) → Below w v → Holds f w → Holds f v
  -- On a word with letters weak is strong.
  pub weak_strong : (b : BoolExpr) (w : Word) → InWord w 0 → Holds (weak b) w ↔ Holds (strong b) w
  -- On a word of at most one letter next fails, and until is its second operand at that letter.
  pub next_last : (f : Formula) (w : Word) → ((k : ℕ) → InWord w (suc k) → ⊥) → Holds (next f) w → ⊥
  pub until_last : (f g : Formula) (w : Word) → ((k : ℕ) → InWord w (suc k) → ⊥) → Holds (until f g) w ↔ (InWord w 0 × Holds g w)
  -- On the empty trace a formula's shape decides.
  pub on_empty : (f : Formula) → HoldsOn f [] [] ↔ T (on_empty f)
  -- LTL: the clauses of the meaning at their borders, and until by one step.
  pub border_facts : BorderFacts
  pub until_step : (x y : Ltl) (t : Trace) (i : ℕ) → InTrace t i
      → LtlHolds (luntil x y) t i ↔ (LtlHolds y t i ⊎ (LtlHolds x t i × LtlHolds (luntil x y) t (suc i)))
  -- Demand 3, of trees: on every trace that is not empty, finite or looping, of any letters and any length, a formula holds by the PSL meaning
  -- exactly when its translation holds by the LTL meaning.
  pub keeps : (f : Formula) (lead loop : List ℕ) → 0 < size lead loop → HoldsOn f lead loop ↔ LtlHoldsOn (translation f) lead loop
  -- Whether a tree holds at a moment of a trace is decided, and so is whether a formula holds on a trace.
  pub decided_at : (x : Ltl) (lead loop : List ℕ) (i : ℕ) → LtlHolds x (letter_at lead loop) i ⊎ (LtlHolds x (letter_at lead loop) i → ⊥)
  pub decided_on : (f : Formula) (lead loop : List ℕ) → HoldsOn f lead loop ⊎ (HoldsOn f lead loop → ⊥)
  -- What the short forms of a supplier's formula say on a trace, and on a word with TOP or BOTTOM.
  pub short_forms : ShortForms
  pub beyond_traces : BeyondTraces
