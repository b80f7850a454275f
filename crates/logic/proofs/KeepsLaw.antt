-- The translation keeps the meaning at every moment of a trace that has no gap and can be searched.
use Prim.Native.Nat.{ℕ, zero, suc, ◌+◌, ◌-◌, ◌≤◌, ◌<◌}
use mathlib.Core.Path.{◌≡◌, refl, sym, ap, subst, fun_ext, ◌∙◌}
use mathlib.Core.Logic.Iff
use mathlib.Core.Logic.{◌⊎◌, inl, inr, ◌↔◌}
use mathlib.Core.Bool.{Bool, true, false, cond, not, ◌&&◌, ◌||◌}
use mathlib.Core.Option.{Option, none, some}
use native.Mathlib.Omega.{arith}
use lib.Dec.{T}
use Rattle.logic.specs.Trace.{Trace, Has, InTrace}
use Rattle.logic.specs.Word.{Slot, over, plain, top, bottom, Word, filled, InWord, suffix, flip, dual}
use Rattle.logic.proofs.MomentsLaw.{Searchable, Gapless, inside-before, is-inside, letter_of}
use Rattle.logic.proofs.TestLaw.{not_iff, and_iff, or_iff}
use Rattle.logic.specs.Formula.{BoolExpr, btrue, var, bnot, band, Formula, weak, strong, fnot, fand, next, until, abort}
use Rattle.logic.specs.Meaning.{sat, Satisfies, Holds}
use Rattle.logic.proofs.OrderLaw.{extreme}
use Rattle.logic.proofs.WordLaw.{suffix-zero}
use Rattle.logic.specs.Tree.{Ltl, lnot, land, lor, lnext, luntil}
use Rattle.logic.specs.LtlMeaning.{LtlHolds}
use Rattle.logic.specs.Translation.{tree_b, translated}
use Rattle.logic.proofs.StepLaw as S
use Rattle.logic.proofs.MarkedLaw.{Test, mark, onward, marked, tail, View, accept, reject, pending, view, widen, abort-wide}

-- A tree says a test of the letter, at every moment inside.
abbrev pub Says : Trace → Ltl → Test → Type 0
Says t x p = (i n : ℕ) → t i ≡ some n → LtlHolds x t i ↔ T (p n)

swap_iff : (A B : Type 0) → (A × B) ↔ (B × A)
swap_iff A B = (λ h. (h.1, h.0), λ h. (h.1, h.0))

pub says_bool : (t : Trace) (b : BoolExpr) → Says t (tree_b b) (sat b)
says_bool t btrue i n e = (λ h. tt, λ h. tt)
says_bool t (var k) i n e = (λ h. rw e at h, λ h. rw e h)
says_bool t (bnot b) i n e = not_iff (sat b n) (says_bool t b i n e)
says_bool t (band b c) i n e = and_iff (sat b n) (sat c n) (says_bool t b i n e) (says_bool t c i n e)

-- What an abort, and a weak or a strong Boolean, make of a, b and r.
pub says_widen : (t : Trace) (b : BoolExpr) (x y : Ltl) (a r : Test) → Says t x a → Says t y r
    → Says t (lor x (land (tree_b b) (lnot y))) (widen a r b)
says_widen t b x y a r p q i n e =
    or_iff (a n) (not (r n) && sat b n) (p i n e)
    (Iff.trans (swap_iff (LtlHolds (tree_b b) t i) (LtlHolds (lnot y) t i))
    (and_iff (not (r n)) (sat b n) (not_iff (r n) (q i n e)) (says_bool t b i n e)))

abbrev pub Apart : Test → Test → Type 0
Apart a r = (n : ℕ) → T (a n) → T (r n) → ⊥

apart_swap : (a r : Test) → Apart a r → Apart r a
apart_swap a r h n p q = h n q p

apart_widen : (a r : Test) (b : BoolExpr) → Apart a r → Apart (widen a r b) r
apart_widen a r b h n = go (a n) (r n) (sat b n) (h n)
  where
    go : (x y z : Bool) → (T x → T y → ⊥) → T (x || (not y && z)) → T y → ⊥
    go true y z g p q = g tt q
    go false true z g p q = p
    go false false z g p q = q

flip_mark : (a r : Test) → Apart a r → (o : Option ℕ) → flip (mark a r o) ≡ mark r a o
flip_mark a r h none = refl
flip_mark a r h (some n) = go (a n) (r n) (h n)
  where
    go : (x y : Bool) → (T x → T y → ⊥) → flip (cond x top (cond y bottom (plain n))) ≡ cond y top (cond x bottom (plain n))
    go true true g = absurd (g tt tt)
    go true false g = refl
    go false true g = refl
    go false false g = refl

flip_onward : (s x : Slot) → flip (onward s x) ≡ onward (flip s) (flip x)
flip_onward over x = refl
flip_onward (plain n) x = refl
flip_onward top x = refl
flip_onward bottom x = refl

dual-marked : (a r : Test) (t : Trace) → Apart a r → (k i : ℕ) → flip (marked a r t i k) ≡ marked r a t i k
dual-marked a r t h zero i = flip_mark a r h (t i)
dual-marked a r t h (suc k) i =
    flip_onward (mark a r (t i)) (marked a r t (suc i) k) ∙ cc (flip_mark a r h (t i), dual-marked a r t h k (suc i))

-- ── The Booleans ──

weak_slot : (b : BoolExpr) (n : ℕ) (x y : Bool) → let s = cond x top (cond y bottom (plain n)) in
    ((filled s → ⊥) ⊎ Satisfies b s) ↔ T (x || (not y && sat b n))
weak_slot b n true y = (λ h. tt, λ h. inr tt)
weak_slot b n false true = (λ h. elim h [ inl p ↦ p tt | inr p ↦ p ], λ h. absurd h)
weak_slot b n false false = (λ h. elim h [ inl p ↦ absurd (p tt) | inr p ↦ p ], λ h. inr h)

strong_slot : (b : BoolExpr) (n : ℕ) (x y : Bool) → let s = cond x top (cond y bottom (plain n)) in
    (filled s × Satisfies b s) ↔ T (x || (not y && sat b n))
strong_slot b n true y = (λ h. tt, λ h. (tt, tt))
strong_slot b n false true = (λ h. h.1, λ h. absurd h)
strong_slot b n false false = (λ h. h.1, λ h. (tt, h))

weak_at : (b : BoolExpr) (a r : Test) (t : Trace) (i n : ℕ) → t i ≡ some n → Holds (weak b) (marked a r t i) ↔ T (widen a r b n)
weak_at b a r t i n e = rw e (weak_slot b n (a n) (r n))

strong_at : (b : BoolExpr) (a r : Test) (t : Trace) (i n : ℕ) → t i ≡ some n → Holds (strong b) (marked a r t i) ↔ T (widen a r b n)
strong_at b a r t i n e = rw e (strong_slot b n (a n) (r n))

-- ── Inside and outside ──

inside_cond : (x y : Bool) (n : ℕ) → filled (cond x top (cond y bottom (plain n)))
inside_cond true y n = tt
inside_cond false true n = tt
inside_cond false false n = tt

-- The first slot of a marked word is inside where the run is.
inside_mark : (a r : Test) (o : Option ℕ) → filled (mark a r o) ↔ Has o
inside_mark a r none = (λ h. h, λ h. h)
inside_mark a r (some n) = (λ h. tt, λ h. inside_cond (a n) (r n) n)

-- Where the run is over, so is the word.
inside-marked : (a r : Test) (t : Trace) (i k : ℕ) → InWord (marked a r t i) k → InTrace t i
inside-marked a r t i zero h = (inside_mark a r (t i)).0 h
inside-marked a r t i (suc k) h = go (t i) h
  where
    go : (o : Option ℕ) → filled (onward (mark a r o) (marked a r t (suc i) k)) → Has o
    go none g = g
    go (some n) g = tt

suffix-suc : (j : ℕ) (w : Word) → suffix (suc j) w ≡ suffix j (tail w)
suffix-suc j w = fun_ext (λ k. ap w (omega arith))

suffix-one : (w : Word) → suffix 1 w ≡ tail w
suffix-one w = fun_ext (λ k. ap w (omega arith))

-- ── The PSL until, one step at a time ──

until_now : (f g : Formula) (w : Word) → InWord w 0 → Holds g w → Holds (until f g) w
until_now f g w h k = (0, h, rw suffix-zero k, λ j l. absurd (omega arith))

until_later : (f g : Formula) (w : Word) → Holds f w → Holds (until f g) (tail w) → Holds (until f g) w
until_later f g w h u = (suc u.0, u.1, rw (suffix-suc u.0 w) u.2, before)
  where
    before : (j : ℕ) → j < suc u.0 → Holds f (suffix j w)
    before zero l = rw (suffix-zero w) h
    before (suc j) l = rw (suffix-suc j w) (u.3 j (omega arith))

module _ (t : Trace) (gapless : Gapless t) (a r : Test) where
  -- What the induction knows of an operand.
  Agree : Formula → Ltl → Type 0
  Agree f x = (i n : ℕ) → t i ≡ some n → Holds f (marked a r t i) ↔ LtlHolds x t i

  next-at : (f : Formula) (x y z : Ltl) → Says t y a → Says t z r → Agree f x
      → (i n : ℕ) → t i ≡ some n → Holds (next f) (marked a r t i) ↔ LtlHolds (lor y (land (lnext x) (lnot z))) t i
  unfolding Agree
  next-at f x y z p q ih i n e = go (view a r t i n e)
    where
      go : View a r t i n → Holds (next f) (marked a r t i) ↔ LtlHolds (lor y (land (lnext x) (lnot z))) t i
      go (accept ya w) = (λ h. inl ((p i n e).1 ya), λ h. subst (Holds (next f)) (sym w) (extreme (next f)).0)
      go (reject na yr w) = (
        λ h. absurd ((extreme (next f)).1 (subst (Holds (next f)) w h)),
        λ h. elim h [ inl l ↦ absurd (na ((p i n e).0 l)) | inr m ↦ absurd (m.1 ((q i n e).1 yr)) ],
      )
      go (pending na nr w v) = (out, into)
        where
          out : Holds (next f) (marked a r t i) → LtlHolds (lor y (land (lnext x) (lnot z))) t i
          out h =
              let k : InTrace t (suc i) = (inside_mark a r (t (suc i))).0 (subst (λ (u : Word). InWord u 0) v h.0) in
              let s = letter_of (t (suc i)) k in
              inr (
                (k, (ih (suc i) s.0 s.1).0 (subst (Holds f) (suffix-one (marked a r t i) ∙ v) h.1)),
                λ l. nr ((q i n e).0 l),
              )

          into : LtlHolds (lor y (land (lnext x) (lnot z))) t i → Holds (next f) (marked a r t i)
          into (inl l) = absurd (na ((p i n e).0 l))
          into (inr m) =
              let s = letter_of (t (suc i)) m.0.0 in (
                subst (λ (u : Word). InWord u 0) (sym v) ((inside_mark a r (t (suc i))).1 m.0.0),
                subst (Holds f) (sym (suffix-one (marked a r t i) ∙ v)) ((ih (suc i) s.0 s.1).1 m.0.1),
              )

  until_out : (f g : Formula) (x y : Ltl) → Agree f x → Agree g y → (k i n : ℕ) → t i ≡ some n
      → InWord (marked a r t i) k → Holds g (suffix k (marked a r t i)) → ((j : ℕ) → j < k → Holds f (suffix j (marked a r t i)))
      → LtlHolds (luntil x y) t i
  unfolding Agree
  until_out f g x y ih jh zero i n e m h b =
      S.until_now x y t i (is-inside t i n e) ((jh i n e).0 (rw (suffix-zero (marked a r t i)) at h))
  until_out f g x y ih jh (suc k) i n e m h b = go (view a r t i n e) (λ n' e'. until_out f g x y ih jh k (suc i) n' e')
    where
      now : LtlHolds x t i
      now = (ih i n e).0 (rw (suffix-zero (marked a r t i)) at (b 0 (omega arith)))

      go : View a r t i n
          → ((n' : ℕ) → t (suc i) ≡ some n' → InWord (marked a r t (suc i)) k → Holds g (suffix k (marked a r t (suc i)))
          → ((j : ℕ) → j < k → Holds f (suffix j (marked a r t (suc i)))) → LtlHolds (luntil x y) t (suc i))
          → LtlHolds (luntil x y) t i
      go (accept ya w) rec = S.until_now x y t i (is-inside t i n e) ((jh i n e).0 (subst (Holds g) (sym w) (extreme g).0))
      go (reject na yr w) rec = absurd ((extreme g).1 (subst (λ (u : Word). Holds g (suffix (suc k) u)) w h))
      go (pending na nr w v) rec =
          let c : InWord (marked a r t (suc i)) k = subst (λ (u : Word). InWord u k) v m in
          let s = letter_of (t (suc i)) (inside-marked a r t (suc i) k c) in
          S.until_later x y t i now
          (rec s.0 s.1 c
          (subst (λ (u : Word). Holds g (suffix k u)) v (rw (suffix-suc k (marked a r t i)) at h))
          (λ j l. subst (λ (u : Word). Holds f (suffix j u)) v (rw (suffix-suc j (marked a r t i)) at (b (suc j) (omega arith)))))

  until_in : (f g : Formula) (x y : Ltl) → Agree f x → Agree g y → (d i n k : ℕ) → t i ≡ some n → k ≡ i + d
      → InTrace t k → LtlHolds y t k → ((j : ℕ) → i ≤ j → j < k → LtlHolds x t j)
      → Holds (until f g) (marked a r t i)
  unfolding Agree
  until_in f g x y ih jh zero i n k e d c h b =
      until_now f g (marked a r t i) ((inside_mark a r (t i)).1 (is-inside t i n e))
      ((jh i n e).1 (subst (LtlHolds y t) (omega arith) h))
  until_in f g x y ih jh (suc d) i n k e dk c h b =
      go (view a r t i n e) (λ n' e'. until_in f g x y ih jh d (suc i) n' k e' (omega arith) c h (λ j l. b j (omega arith)))
    where
      now : Holds f (marked a r t i)
      now = (ih i n e).1 (b i (omega arith) (omega arith))

      go : View a r t i n → ((n' : ℕ) → t (suc i) ≡ some n' → Holds (until f g) (marked a r t (suc i))) → Holds (until f g) (marked a r t i)
      go (accept ya w) rec = subst (Holds (until f g)) (sym w) (extreme (until f g)).0
      go (reject na yr w) rec = absurd ((extreme f).1 (subst (Holds f) w now))
      go (pending na nr w v) rec =
          let s = letter_of (t (suc i)) (inside-before t gapless d (suc i) k (omega arith) c) in
          until_later f g (marked a r t i) now (subst (Holds (until f g)) (sym v) (rec s.0 s.1))

  until-at : (f g : Formula) (x y : Ltl) → Agree f x → Agree g y → (i n : ℕ) → t i ≡ some n
      → Holds (until f g) (marked a r t i) ↔ LtlHolds (luntil x y) t i
  until-at f g x y ih jh i n e = (
    λ h. until_out f g x y ih jh h.0 i n e h.1 h.2 h.3,
    λ h. until_in f g x y ih jh (h.0 - i) i n h.0 e (omega arith) h.2 h.3 h.4,
  )

-- ── The theorem at a moment ──

pub keeps : (f : Formula) (t : Trace) → Searchable t → Gapless t → (x y : Ltl) (a r : Test) → Says t x a → Says t y r → Apart a r
    → (i n : ℕ) → t i ≡ some n → Holds f (marked a r t i) ↔ LtlHolds (translated f x y) t i
unfolding Agree
keeps (weak b) t s o x y a r p q d i n e =
    Iff.trans (weak_at b a r t i n e) (Iff.symm (says_widen t b x y a r p q i n e))
keeps (strong b) t s o x y a r p q d i n e =
    Iff.trans (strong_at b a r t i n e) (Iff.symm (says_widen t b x y a r p q i n e))
keeps (fnot f) t s o x y a r p q d i n e =
    let ih = keeps f t s o y x r a q p (apart_swap a r d) i n e in
    let w : dual (marked a r t i) ≡ marked r a t i = fun_ext (λ k. dual-marked a r t d k i) in (
      λ h l. h (subst (Holds f) (sym w) (ih.1 l)),
      λ h l. h (ih.0 (subst (Holds f) w l)),
    )
keeps (fand f g) t s o x y a r p q d i n e =
    let ih = keeps f t s o x y a r p q d i n e in
    let jh = keeps g t s o x y a r p q d i n e in
    (λ h. (ih.0 h.0, jh.0 h.1), λ h. (ih.1 h.0, jh.1 h.1))
keeps (next f) t s o x y a r p q d i n e =
    next-at t o a r f (translated f x y) x y p q (keeps f t s o x y a r p q d) i n e
keeps (until f g) t s o x y a r p q d i n e =
    until-at t o a r f g (translated f x y) (translated g x y) (keeps f t s o x y a r p q d) (keeps g t s o x y a r p q d) i n e
keeps (abort f b) t s o x y a r p q d i n e =
    Iff.trans (abort-wide a r b t s f i)
    (keeps f t s o (lor x (land (tree_b b) (lnot y))) y (widen a r b) r (says_widen t b x y a r p q) q (apart_widen a r b d) i n e)
