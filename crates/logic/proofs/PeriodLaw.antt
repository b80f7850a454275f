-- A tree's truth at a moment depends only on the trace from there on; so past the lead-in it repeats with the loop.
use Prim.Native.Nat.{ℕ, suc, ◌+◌, ◌-◌, ◌≤◌, ◌<◌}
use mathlib.Core.Path.{◌≡◌, sym, ap, subst, ◌∙◌}
use mathlib.Core.Logic.{inl, inr, ◌↔◌}
use mathlib.Core.List.{List}
use native.Mathlib.Omega.{arith}
use lib.ListN.{length}
use Rattle.logic.specs.Trace.{Trace, letter_at, Has}
use Rattle.logic.proofs.MomentsLaw.{turn, turn_pos, turned}
use Rattle.logic.specs.Tree.{Ltl, ltrue, lvar, lnot, land, lor, lnext, luntil}
use Rattle.logic.specs.LtlMeaning.{Signal, LtlHolds}

-- From moment i on t is as u is from moment j on.
pub record Alike (t : Trace) (i : ℕ) (u : Trace) (j : ℕ) : Type 0 where
  pub at : (d m n : ℕ) → m ≡ i + d → n ≡ j + d → t m ≡ u n

module _ {t u : Trace} {i j : ℕ} (A : Alike t i u j) where
  alike_sym : Alike u j t i
  alike_sym = record { at = λ d m n p q. sym (A.at d n m q p) }

  alike_now : t i ≡ u j
  alike_now = A.at 0 i j (omega arith) (omega arith)

  alike_later : (d m n : ℕ) → m ≡ i + d → n ≡ j + d → Alike t m u n
  alike_later d m n p q = record { at = λ c k l h g. A.at (d + c) k l (omega arith) (omega arith) }

pub holds_alike : (x : Ltl) {t u : Trace} {i j : ℕ} → Alike t i u j → LtlHolds x t i → LtlHolds x u j
holds_alike ltrue A h = tt
holds_alike (lvar k) A h = subst (Signal k) (alike_now A) h
holds_alike (lnot f) A h = λ g. h (holds_alike f (alike_sym A) g)
holds_alike (land f g) A h = (holds_alike f A h.0, holds_alike g A h.1)
holds_alike (lor f g) A (inl h) = inl (holds_alike f A h)
holds_alike (lor f g) A (inr h) = inr (holds_alike g A h)
holds_alike (lnext f) {i = i} {j = j} A h =
    let B = alike_later A 1 (suc i) (suc j) (omega arith) (omega arith) in
    (subst Has (alike_now B) h.0, holds_alike f B h.1)
holds_alike (luntil f g) {i = i} {j = j} A (k, l, inside, hg, hf) =
    let n = j + (k - i) in
    let B = alike_later A (k - i) k n (omega arith) (omega arith) in (
      n,
      omega arith,
      subst Has (alike_now B) inside,
      holds_alike g B hg,
      λ m p q.
          let o = i + (m - j) in
          holds_alike f (alike_later A (m - j) o m (omega arith) (omega arith)) (hf o (omega arith) (omega arith)),
    )

-- ── Traces that repeat ──

-- From moment a on, the trace repeats every p moments.
pub record Repeats (t : Trace) (a p : ℕ) : Type 0 where
  pub pos : 0 < p
  pub again : (m : ℕ) → a ≤ m → t (m + p) ≡ t m

pub holds_again : (x : Ltl) {t : Trace} {a p : ℕ} → Repeats t a p → (i : ℕ) → a ≤ i → LtlHolds x t i ↔ LtlHolds x t (i + p)
holds_again x {t} {a} {p} R i l = (holds_alike x alike, holds_alike x (alike_sym alike))
  where
    alike : Alike t i t (i + p)
    alike = record { at = λ d m n q r. sym (ap t (omega arith) ∙ R.again m (omega arith)) }

pub repeats : (lead loop : List ℕ) → Repeats (letter_at lead loop) (length lead) (turn loop)
repeats lead loop = record { pos = turn_pos loop; again = turned lead loop }
