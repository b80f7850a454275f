-- The LTL meaning by one step: until holds where its second operand does, or where the first does and until holds at the next moment.
use mathlib.Core.Path.{subst}
use mathlib.Core.Logic.{◌⊎◌, inl, inr, ◌↔◌}
use Prim.Native.Nat.{ℕ, suc, ◌≤◌, ◌<◌}
use native.Mathlib.Omega.{arith}
use native.Mathlib.Decide.{dec_lt}
use Rattle.logic.specs.Trace.{Trace, InTrace}
use Rattle.logic.specs.Tree.{Ltl, luntil}
use Rattle.logic.specs.LtlMeaning.{LtlHolds}

module _ (x y : Ltl) (t : Trace) (i : ℕ) where
  pub until_now : InTrace t i → LtlHolds y t i → LtlHolds (luntil x y) t i
  until_now k h = (i, omega arith, k, h, λ j l u. absurd (omega arith))

  pub until_later : LtlHolds x t i → LtlHolds (luntil x y) t (suc i) → LtlHolds (luntil x y) t i
  until_later a u = (u.0, omega (arith, u.1), u.2, u.3, λ j l b. from j l b (dec_lt i j))
    where
      from : (j : ℕ) → i ≤ j → j < u.0 → Dec (i < j) → LtlHolds x t j
      from j l b (yes h) = u.4 j h b
      from j l b (no h) = subst (LtlHolds x t) (omega arith) a

  pub until_step : InTrace t i → LtlHolds (luntil x y) t i ↔ (LtlHolds y t i ⊎ (LtlHolds x t i × LtlHolds (luntil x y) t (suc i)))
  until_step k = (λ u. out u (dec_lt i u.0), λ h. elim h [ inl b ↦ until_now k b | inr b ↦ until_later b.0 b.1 ])
    where
      out : (u : LtlHolds (luntil x y) t i) → Dec (i < u.0) → LtlHolds y t i ⊎ (LtlHolds x t i × LtlHolds (luntil x y) t (suc i))
      out u (yes h) = inr (u.4 i (omega arith) h, (u.0, h, u.2, u.3, λ j l b. u.4 j (omega arith) b))
      out u (no h) = inl (subst (LtlHolds y t) (omega (arith, u.1)) u.3)
