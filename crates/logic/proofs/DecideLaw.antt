-- Truth is decided: of a tree at every moment of a trace, and of a formula on the word of a trace.
use Prim.Native.Nat.{ℕ, suc, ◌+◌, ◌≤◌, ◌<◌}
use mathlib.Core.Path.{subst}
use mathlib.Core.Logic.Dec
use mathlib.Core.Logic.Iff
use mathlib.Core.Logic.{◌⊎◌, inl, inr}
use mathlib.Core.Option.{Option, none, some}
use mathlib.Core.List.{List, [], ◌∷◌}
use native.Mathlib.Omega.{arith}
use lib.ListN.{length}
use Rattle.logic.specs.Letter.{bit}
use Rattle.logic.specs.Trace.{Trace, letter_at, size, Has, InTrace}
use Rattle.logic.specs.Word.{Word}
use Rattle.logic.specs.Formula.{Formula}
use Rattle.logic.specs.Meaning.{Holds, HoldsOn}
use Rattle.logic.specs.Empty.{on_empty}
use Rattle.logic.proofs.EmptyLaw.{holds-empty}
use Rattle.logic.specs.Tree.{Ltl, ltrue, lvar, lnot, land, lor, lnext, luntil}
use Rattle.logic.specs.LtlMeaning.{Signal, LtlHolds}
use Rattle.logic.specs.Translation.{translation}
use Rattle.logic.proofs.TranslationLaw.{translated-holds}
use Rattle.logic.proofs.MomentsLaw.{turn}
use Rattle.logic.proofs.TestLaw.{decided_test}
use Rattle.logic.proofs.PeriodLaw.{Repeats, holds_again, repeats}
use Rattle.logic.proofs.SearchLaw.{Found, earliest_ever, decided_or, decided_until}
use Rattle.logic.proofs.SuffixLaw.{OfTrace}

-- As the two are told in specs/.
pub either : {A : Type 0} → Dec A → A ⊎ (A → ⊥)
either (yes a) = inl a
either (no n) = inr n

decided_has : (o : Option ℕ) → Dec (Has o)
decided_has none = no (λ h. h)
decided_has (some x) = yes tt

decided_signal : (k : ℕ) (o : Option ℕ) → Dec (Signal k o)
decided_signal k none = no (λ h. h)
decided_signal k (some x) = decided_test (bit x k)

-- The moment is inside, and the tree holds there.
abbrev pub HoldsInside : Ltl → Trace → ℕ → Type 0
HoldsInside x t k = InTrace t k × LtlHolds x t k

-- ── A tree, on a trace that repeats ──

module _ {t : Trace} {a p : ℕ} (R : Repeats t a p) where
  inside_back : (x : Ltl) (k : ℕ) → a ≤ k → HoldsInside x t (k + p) → HoldsInside x t k
  inside_back x k l h = (subst Has (R.again k l) h.0, (holds_again x R k l).1 h.1)

  decided_inside : (x : Ltl) → ((k : ℕ) → Dec (LtlHolds x t k)) → (k : ℕ) → Dec (HoldsInside x t k)
  decided_inside x d k = Dec.and (decided_has (t k)) (d k)

  decided_at : (x : Ltl) (i : ℕ) → Dec (LtlHolds x t i)
  decided_at ltrue i = yes tt
  decided_at (lvar k) i = decided_signal k (t i)
  decided_at (lnot f) i = Dec.not (decided_at f i)
  decided_at (land f g) i = Dec.and (decided_at f i) (decided_at g i)
  decided_at (lor f g) i = decided_or (decided_at f i) (decided_at g i)
  decided_at (lnext f) i = Dec.and (decided_has (t (suc i))) (decided_at f (suc i))
  decided_at (luntil f g) i =
      Dec.of_iff (λ u. (u.0, u.1, u.2.0, u.2.1, u.3), λ u. (u.0, u.1, (u.2, u.3), u.4))
      (decided_until (LtlHolds f t) (HoldsInside g t) (decided_at f) a p R.pos (λ k l. (holds_again f R k l).0) (inside_back g)
      (decided_inside g (decided_at g)) i)

  earliest_at : (x : Ltl) (i : ℕ) → Found (HoldsInside x t) i (i + (a + p)) ⊎ ((k : ℕ) → i ≤ k → HoldsInside x t k → ⊥)
  earliest_at x i = earliest_ever (HoldsInside x t) a p R.pos (inside_back x) i (decided_inside x (decided_at x))

-- ── A tree, on a trace given by its lists ──

module _ (x : Ltl) (lead loop : List ℕ) (i : ℕ) where
  pub decided_ltl : Dec (LtlHolds x (letter_at lead loop) i)
  decided_ltl = decided_at (repeats lead loop) x i

  -- The earliest moment from i on at which x holds, fewer than the lead-in's and one turn's moments ahead, or none. For `lnot x`: at which x fails.
  pub earliest_ltl : let P = HoldsInside x (letter_at lead loop) in
      Found P i (i + (length lead + turn loop)) ⊎ ((k : ℕ) → i ≤ k → P k → ⊥)
  earliest_ltl = earliest_at (repeats lead loop) x i

-- ── A formula ──

by_tree : (f : Formula) (lead loop : List ℕ) → 0 < size lead loop → Dec (HoldsOn f lead loop)
by_tree f lead loop h = Dec.of_iff (Iff.symm (translated-holds f lead loop h)) (decided_ltl (translation f) lead loop 0)

pub decided_on : (f : Formula) (lead loop : List ℕ) → Dec (HoldsOn f lead loop)
decided_on f [] [] = Dec.of_iff (Iff.symm (holds-empty f)) (decided_test (on_empty f))
decided_on f [] (y ∷ loop) = by_tree f [] (y ∷ loop) (omega arith)
decided_on f (x ∷ lead) loop = by_tree f (x ∷ lead) loop (omega arith)

pub decided_holds : (f : Formula) {w : Word} → OfTrace w → Dec (Holds f w)
decided_holds f o = subst (λ (u : Word). Dec (Holds f u)) o.word (decided_on f o.lead o.loop)
