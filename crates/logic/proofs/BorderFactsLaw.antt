-- The clauses of the LTL meaning at their borders.
use Prim.Native.Nat.{ℕ, zero, suc, ◌≤◌, ◌<◌, ◌%◌}
use mathlib.Core.Logic.{inr}
use mathlib.Core.Option.{some}
use mathlib.Core.List.{[], ◌∷◌}
use native.Mathlib.Omega.{arith}
use lib.ListN.{get_or}
use Rattle.logic.specs.Letter.{bit}
use Rattle.logic.specs.Trace.{letter_at, InTrace}
use Rattle.logic.specs.Tree.{lnot}
use Rattle.logic.specs.LtlMeaning.{Signal, LtlHolds}
use Rattle.logic.specs.BorderFacts.{p, q, BorderFacts}

pub border_facts : BorderFacts
unfolding letter_at bit
border_facts =
    record {
      true_holds = tt;
      var_set = tt;
      var_clear = λ h. h;
      not_holds = λ h. h;
      not_fails = λ h. h tt;
      and_fails = λ h. h.1;
      or_holds = inr tt;
      next_past_end = λ h. h.0;
      next_round = (tt, tt);
      until_at_once = (0, omega arith, tt, tt, λ j l m. absurd (omega arith));
      until_past_end = λ h. past h.0 h.2 h.3;
      until_gap = λ h. gap h.0 h.3 h.4;
      until_never = λ h. never h.0 h.3;
      until_round = (1, omega arith, tt, tt, first);
    }
  where
    past : (k : ℕ) → InTrace (letter_at (1 ∷ []) []) k → LtlHolds (lnot p) (letter_at (1 ∷ []) []) k → ⊥
    past zero i h = h tt
    past (suc k) i h = i

    gap : (k : ℕ) → LtlHolds q (letter_at (0 ∷ 2 ∷ []) []) k → ((j : ℕ) → 0 ≤ j → j < k → LtlHolds p (letter_at (0 ∷ 2 ∷ []) []) j) → ⊥
    gap zero h f = h
    gap (suc k) h f = f 0 (omega arith) (omega arith)

    never : (k : ℕ) → LtlHolds q (letter_at [] (1 ∷ [])) k → ⊥
    never k h = go (k % 1) h
      where
        go : (m : ℕ) → Signal 1 (some (get_or (1 ∷ []) m 0)) → ⊥
        go zero g = g
        go (suc m) g = g

    first : (j : ℕ) → 0 ≤ j → j < 1 → LtlHolds p (letter_at (1 ∷ []) (2 ∷ [])) j
    first zero l m = tt
    first (suc j) l m = absurd (omega arith)
