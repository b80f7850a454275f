-- A formula that holds on a word holds on every better one.
use Prim.Native.Nat.{ℕ, ◌+◌, ◌≤◌}
use mathlib.Core.Path.{◌≡◌, refl, sym, ap, subst, fun_ext}
use mathlib.Core.Logic.{◌⊎◌, inl, inr}
use mathlib.Core.Bool.{Bool, true, false, cond}
use native.Mathlib.Omega.{arith}
use lib.Dec.{ltb, ltb→lt, nltb→le}
use Rattle.logic.specs.Word.{Slot, over, plain, top, bottom, Word, filled, InWord, suffix, flip, dual, cut}
use Rattle.logic.proofs.WordLaw.{cut-past}
use Rattle.logic.specs.Formula.{BoolExpr, Formula, weak, strong, fnot, fand, next, until, abort}
use Rattle.logic.specs.Order.{BelowAt, low, high, same, Below}
use Rattle.logic.specs.Meaning.{Satisfies, Holds}

abbrev pub always : Slot → Word
always s = λ k. s

-- TOP for ever satisfies every formula, BOTTOM for ever none.
pub extreme : (f : Formula) → Holds f (always top) × (Holds f (always bottom) → ⊥)
extreme (weak b) = (inr tt, λ h. elim h [ inl x ↦ x tt | inr y ↦ y ])
extreme (strong b) = ((tt, tt), λ h. h.1)
extreme (fnot f) = ((extreme f).1, λ h. h (extreme f).0)
extreme (fand f g) = (((extreme f).0, (extreme g).0), λ h. (extreme f).1 h.0)
extreme (next f) = ((tt, (extreme f).0), λ h. (extreme f).1 h.1)
extreme (until f g) = ((0, tt, (extreme g).0, λ j h. (extreme f).0), λ h. (extreme g).1 h.2)
extreme (abort f b) = (inl (extreme f).0, λ h. elim h [ inl x ↦ (extreme f).1 x | inr y ↦ y.2 ])

pub fails_bottom : (w : Word) (f : Formula) → ((k : ℕ) → w k ≡ bottom) → Holds f w → ⊥
fails_bottom w f e h = (extreme f).1 (subst (Holds f) (fun_ext e) h)

below-suffix : (w v : Word) (j : ℕ) → Below w v → Below (suffix j w) (suffix j v)
below-suffix w v j p k = go (p (j + k))
  where
    go : BelowAt w v (j + k) → BelowAt (suffix j w) (suffix j v) k
    go (low q) = low (λ l h. q (j + l) (omega arith))
    go (high q) = high (λ l h. q (j + l) (omega arith))
    go (same e) = same e

below-dual : (w v : Word) → Below w v → Below (dual v) (dual w)
below-dual w v p k = go (p k)
  where
    go : BelowAt w v k → BelowAt (dual v) (dual w) k
    go (low q) = high (λ l h. ap flip (q l h))
    go (high q) = low (λ l h. ap flip (q l h))
    go (same e) = same (ap flip (sym e))

pub cond_top : (c : Bool) (s : Slot) → s ≡ top → cond c s top ≡ top
cond_top true s e = e
cond_top false s e = refl

pub not_bottom : (b : BoolExpr) (s : Slot) → Satisfies b s → s ≡ bottom → ⊥
not_bottom b s h e = subst (Satisfies b) e h

pub satisfied_in : (b : BoolExpr) (s : Slot) → Satisfies b s → filled s
satisfied_in b over h = h
satisfied_in b (plain x) h = tt
satisfied_in b top h = tt
satisfied_in b bottom h = tt

below-cut : (b : BoolExpr) (w v : Word) (j : ℕ) → Satisfies b (w j) → Below w v → Below (cut j w) (cut j v)
below-cut b w v j h p k = go (p k)
  where
    past : (c : Bool) → ltb k j ≡ c → ((l : ℕ) → k ≤ l → w l ≡ bottom) → BelowAt (cut j w) (cut j v) k
    past true e q = absurd (not_bottom b (w j) h (q j (omega (arith, ltb→lt k j (rw e tt)))))
    past false e q = high (λ l g. cut-past v j l (omega (arith, nltb→le k j (rw e tt))))

    go : BelowAt w v k → BelowAt (cut j w) (cut j v) k
    go (low q) = past (ltb k j) refl q
    go (high q) = high (λ l g. cond_top (ltb l j) (v l) (q l g))
    go (same e) = same (ap (λ (s : Slot). cond (ltb k j) s top) e)

-- A claim about a slot that BOTTOM fails and TOP meets.
at_slot : (P : Slot → Type 0) (w v : Word) (k : ℕ) → (P bottom → ⊥) → P top → BelowAt w v k → P (w k) → P (v k)
at_slot P w v k lo hi (low q) h = absurd (lo (subst P (q k (omega arith)) h))
at_slot P w v k lo hi (high q) h = subst P (sym (q k (omega arith))) hi
at_slot P w v k lo hi (same e) h = subst P e h

-- A letter at k, where a formula holds from k on.
in_slot : (f : Formula) (w v : Word) (k : ℕ) → BelowAt w v k → Holds f (suffix k w) → InWord w k → InWord v k
in_slot f w v k (low q) g h = absurd (fails_bottom (suffix k w) f (λ l. q (k + l) (omega arith)) g)
in_slot f w v k (high q) g h = subst filled (sym (q k (omega arith))) tt
in_slot f w v k (same e) g h = subst filled e h

pub mono : (f : Formula) (w v : Word) → Below w v → Holds f w → Holds f v
mono (weak b) w v p h =
    at_slot (λ s. (filled s → ⊥) ⊎ Satisfies b s) w v 0 (λ x. elim x [ inl y ↦ y tt | inr y ↦ y ]) (inr tt) (p 0) h
mono (strong b) w v p h = at_slot (λ s. filled s × Satisfies b s) w v 0 (λ x. x.1) (tt, tt) (p 0) h
mono (fnot f) w v p h = λ x. h (mono f (dual v) (dual w) (below-dual w v p) x)
mono (fand f g) w v p h = (mono f w v p h.0, mono g w v p h.1)
mono (next f) w v p h =
    (in_slot f w v 1 (p 1) h.1 h.0, mono f (suffix 1 w) (suffix 1 v) (below-suffix w v 1 p) h.1)
mono (until f g) w v p h = (
  h.0,
  in_slot g w v h.0 (p h.0) h.2 h.1,
  mono g (suffix h.0 w) (suffix h.0 v) (below-suffix w v h.0 p) h.2,
  λ j l. mono f (suffix j w) (suffix j v) (below-suffix w v j p) (h.3 j l),
)
mono (abort f b) w v p (inl h) = inl (mono f w v p h)
mono (abort f b) w v p (inr h) =
    let j = h.0 in
    let s : Satisfies b (v j) = at_slot (Satisfies b) w v j (λ x. x) tt (p j) h.2 in
    inr (j, satisfied_in b (v j) s, s, mono f (cut j w) (cut j v) (below-cut b w v j h.2 p) h.3)
