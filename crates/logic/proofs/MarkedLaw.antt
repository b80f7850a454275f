-- A trace seen as a word from a moment on: TOP for ever from the first letter that passes the test a, BOTTOM for ever from the first that passes
-- r. An abort of f, on the word marked by a and r, is f on the word marked by a wider a.
use Prim.Native.Nat.{ℕ, zero, suc, ◌+◌, ◌-◌, ◌≤◌}
use mathlib.Core.Path.{◌≡◌, refl, sym, ap, subst, fun_ext, ◌∙◌}
use mathlib.Core.Logic.{◌⊎◌, inl, inr, ◌↔◌}
use mathlib.Core.Bool.{Bool, true, false, cond, not, ◌&&◌, ◌||◌}
use mathlib.Core.Option.{Option, none, some}
use native.Mathlib.Omega.{arith}
use lib.Dec.{T, ltb, ltb→lt, nltb→le, leb-zero, leb-suc-suc}
use Rattle.logic.specs.Trace.{Trace}
use Rattle.logic.specs.Word.{Slot, over, plain, top, bottom, Word, cut}
use Rattle.logic.proofs.MomentsLaw.{passes, Sometime, Never, Searchable}
use Rattle.logic.proofs.WordLaw.{cut-past}
use Rattle.logic.specs.Formula.{BoolExpr, Formula, abort}
use Rattle.logic.specs.Meaning.{sat, Satisfies, Holds}
use Rattle.logic.proofs.OrderLaw.{always, mono, satisfied_in, not_bottom}
use Rattle.logic.specs.Order.{BelowAt, low, high, same, Below}

abbrev pub Test : Type 0
Test = ℕ → Bool

abbrev pub mark : Test → Test → Option ℕ → Slot
mark a r none = over
mark a r (some n) = cond (a n) top (cond (r n) bottom (plain n))

abbrev pub onward : Slot → Slot → Slot
onward over x = over
onward (plain n) x = x
onward top x = top
onward bottom x = bottom

abbrev pub marked : Test → Test → Trace → ℕ → Word
marked a r t i zero = mark a r (t i)
marked a r t i (suc k) = onward (mark a r (t i)) (marked a r t (suc i) k)

abbrev pub tail : Word → Word
tail w = λ k. w (suc k)

-- A mark that lasts.
pub lasts : (a r : Test) (t : Trace) (i : ℕ) (s : Slot) → mark a r (t i) ≡ s → ((x : Slot) → onward s x ≡ s) → marked a r t i ≡ always s
lasts a r t i s e g = fun_ext go
  where
    go : (k : ℕ) → marked a r t i k ≡ s
    go zero = e
    go (suc k) = ap (λ (m : Slot). onward m (marked a r t (suc i) k)) e ∙ g (marked a r t (suc i) k)

-- A plain letter passes the word on.
pub carries_on : (a r : Test) (t : Trace) (i n : ℕ) → mark a r (t i) ≡ plain n → tail (marked a r t i) ≡ marked a r t (suc i)
carries_on a r t i n e = fun_ext (λ k. ap (λ (m : Slot). onward m (marked a r t (suc i) k)) e)

-- What a moment inside the run is.
pub data View (a r : Test) (t : Trace) (i n : ℕ) : Type 0 where
  accept : T (a n) → marked a r t i ≡ always top → View a r t i n
  reject : (T (a n) → ⊥) → T (r n) → marked a r t i ≡ always bottom → View a r t i n
  pending : (T (a n) → ⊥) → (T (r n) → ⊥) → marked a r t i 0 ≡ plain n → tail (marked a r t i) ≡ marked a r t (suc i) → View a r t i n

pub view : (a r : Test) (t : Trace) (i n : ℕ) → t i ≡ some n → View a r t i n
view a r t i n e = go (a n) (r n) refl refl
  where
    at : (x y : Bool) → a n ≡ x → r n ≡ y → mark a r (t i) ≡ cond x top (cond y bottom (plain n))
    at x y p q = rw (e, p, q)

    go : (x y : Bool) → a n ≡ x → r n ≡ y → View a r t i n
    go true y p q = accept (rw p tt) (lasts a r t i top (at true y p q) (λ x. refl))
    go false true p q = reject (rw p (λ x. x)) (rw q tt) (lasts a r t i bottom (at false true p q) (λ x. refl))
    go false false p q = pending (rw p (λ x. x)) (rw q (λ x. x)) (at false false p q) (carries_on a r t i n (at false false p q))

-- ── Two markings: a, and a with what b adds ──

-- The accept test under an abort.
abbrev pub widen : Test → Test → BoolExpr → Test
widen a r b n = a n || (not (r n) && sat b n)

cut_tail : (w : Word) (j : ℕ) → tail (cut (suc j) w) ≡ cut j (tail w)
cut_tail w j = fun_ext (λ k. ap (λ (c : Bool). cond c (w (suc k)) top) (leb-suc-suc (suc k) j))

cut_head : (w : Word) (j : ℕ) → cut (suc j) w 0 ≡ w 0
cut_head w j = ap (λ (c : Bool). cond c (w 0) top) (leb-suc-suc 0 j ∙ leb-zero j)

pub at_step : (w v : Word) (k : ℕ) → BelowAt (tail w) (tail v) k → BelowAt w v (suc k)
at_step w v k (low q) = low go
  where
    go : (j : ℕ) → suc k ≤ j → w j ≡ bottom
    go zero h = absurd (omega arith)
    go (suc j) h = q j (omega arith)
at_step w v k (high q) = high go
  where
    go : (j : ℕ) → suc k ≤ j → v j ≡ top
    go zero h = absurd (omega arith)
    go (suc j) h = q j (omega arith)
at_step w v k (same e) = same e

pub below_step : (w v : Word) → w 0 ≡ v 0 → Below (tail w) (tail v) → Below w v
below_step w v e p zero = same e
below_step w v e p (suc k) = at_step w v k (p k)

module _ (a r : Test) (b : BoolExpr) (t : Trace) where
  abbrev thin : ℕ → Word
  thin i = marked a r t i

  abbrev wide : ℕ → Word
  wide i = marked (widen a r b) r t i

  data Both (i : ℕ) : Type 0 where
    stuck : (s : Slot) → thin i ≡ always s → wide i ≡ always s → (Satisfies b s → s ≡ top) → Both i
    fire : passes (sat b) (t i) → Satisfies b (thin i 0) → wide i ≡ always top → Both i
    pass : thin i 0 ≡ wide i 0 → (passes (sat b) (t i) → ⊥) → (Satisfies b (thin i 0) → ⊥)
        → tail (thin i) ≡ thin (suc i) → tail (wide i) ≡ wide (suc i) → Both i

  both : (i : ℕ) → Both i
  both i = go (t i) refl
    where
      go : (o : Option ℕ) → t i ≡ o → Both i
      go none e = stuck over (lasts a r t i over (rw e) (λ x. refl)) (lasts (widen a r b) r t i over (rw e) (λ x. refl)) (λ x. absurd x)
      go (some n) e = look (a n) (r n) (sat b n) refl refl refl
        where
          thin_at : (x y : Bool) → a n ≡ x → r n ≡ y → mark a r (t i) ≡ cond x top (cond y bottom (plain n))
          thin_at x y p q = rw (e, p, q)

          wide_at : (x y z : Bool) → a n ≡ x → r n ≡ y → sat b n ≡ z
              → mark (widen a r b) r (t i) ≡ cond (x || (not y && z)) top (cond y bottom (plain n))
          wide_at x y z p q s = rw (e, p, q, s)

          look : (x y z : Bool) → a n ≡ x → r n ≡ y → sat b n ≡ z → Both i
          look true y z p q s = stuck top (lasts a r t i top (thin_at true y p q) (λ x. refl))
              (lasts (widen a r b) r t i top (wide_at true y z p q s) (λ x. refl)) (λ x. refl)
          look false true z p q s = stuck bottom (lasts a r t i bottom (thin_at false true p q) (λ x. refl))
              (lasts (widen a r b) r t i bottom (wide_at false true z p q s) (λ x. refl)) (λ x. absurd x)
          look false false true p q s = fire (rw (e, s) tt) (rw (thin_at false false p q, s) tt)
              (lasts (widen a r b) r t i top (wide_at false false true p q s) (λ x. refl))
          look false false false p q s =
              pass (thin_at false false p q ∙ sym (wide_at false false false p q s))
              (rw (e, s) (λ x. x))
              (rw (thin_at false false p q, s) (λ x. x))
              (carries_on a r t i n (thin_at false false p q))
              (carries_on (widen a r b) r t i n (wide_at false false false p q s))

  -- Where the thin word satisfies b, the wide one is TOP for ever.
  topped : (j i : ℕ) → Satisfies b (thin i j) → (l : ℕ) → j ≤ l → wide i l ≡ top
  topped zero i m l h = go (both i)
    where
      go : Both i → wide i l ≡ top
      go (stuck s p q g) = ap (λ (w : Word). w l) q ∙ g (subst (λ (w : Word). Satisfies b (w 0)) p m)
      go (fire n f q) = ap (λ (w : Word). w l) q
      go (pass e n g p q) = absurd (g m)
  topped (suc j) i m zero h = absurd (omega arith)
  topped (suc j) i m (suc l) h = go (both i) (topped j (suc i))
    where
      go : Both i → (Satisfies b (thin (suc i) j) → (l : ℕ) → j ≤ l → wide (suc i) l ≡ top) → wide i (suc l) ≡ top
      go (stuck s p q g) ih = ap (λ (w : Word). w (suc l)) q ∙ g (subst (λ (w : Word). Satisfies b (w (suc j))) p m)
      go (fire n f q) ih = ap (λ (w : Word). w (suc l)) q
      go (pass e n g p q) ih = ap (λ (w : Word). w l) q ∙ ih (subst (λ (w : Word). Satisfies b (w j)) p m) l (omega arith)

  -- The thin word is below the wide one.
  up : (k i : ℕ) → BelowAt (thin i) (wide i) k
  up zero i = go (both i)
    where
      go : Both i → BelowAt (thin i) (wide i) 0
      go (stuck s p q g) = same (ap (λ (w : Word). w 0) (p ∙ sym q))
      go (fire n f q) = high (λ l h. ap (λ (w : Word). w l) q)
      go (pass e n g p q) = same e
  up (suc k) i = go (both i) (up k (suc i))
    where
      go : Both i → BelowAt (thin (suc i)) (wide (suc i)) k → BelowAt (thin i) (wide i) (suc k)
      go (stuck s p q g) ih = same (ap (λ (w : Word). w (suc k)) (p ∙ sym q))
      go (fire n f q) ih = high (λ l h. ap (λ (w : Word). w l) q)
      go (pass e n g p q) ih = at_step (thin i) (wide i) k (rw (p, q) ih)

  -- So is the thin word, cut where it satisfies b.
  cut_up : (i j : ℕ) → Satisfies b (thin i j) → Below (cut j (thin i)) (wide i)
  cut_up i j m k = past (ltb k j) refl
    where
      past : (c : Bool) → ltb k j ≡ c → BelowAt (cut j (thin i)) (wide i) k
      past true e = go (up k i)
        where
          go : BelowAt (thin i) (wide i) k → BelowAt (cut j (thin i)) (wide i) k
          go (low q) = absurd (not_bottom b (thin i j) m (q j (omega (arith, ltb→lt k j (rw e tt)))))
          go (high q) = high q
          go (same d) = same (rw e d)
      past false e = high (λ l g. topped j i m l (omega (arith, nltb→le k j (rw e tt))))

  -- The wide word is the thin one, or the thin one cut where it first satisfies b.
  Split : ℕ → Type 0
  Split i = ((j : ℕ) × Satisfies b (thin i j) × Below (wide i) (cut j (thin i))) ⊎ Below (wide i) (thin i)

  split_from : (d i k : ℕ) → k ≡ i + d → passes (sat b) (t k) → Split i
  unfolding Split
  split_from zero i k e h = go (both i)
    where
      go : Both i → Split i
      go (stuck s p q g) = inr (λ l. same (ap (λ (w : Word). w l) (q ∙ sym p)))
      go (fire n f q) = inl (0, f, λ l. high (λ j g. cut-past (thin i) 0 j (omega arith)))
      go (pass e' n g p q) = absurd (n (subst (λ (m : ℕ). passes (sat b) (t m)) (omega arith) h))
  split_from (suc d) i k e h = go (both i) (split_from d (suc i) k (omega arith) h)
    where
      go : Both i → Split (suc i) → Split i
      go (stuck s p q g) ih = inr (λ l. same (ap (λ (w : Word). w l) (q ∙ sym p)))
      go (fire n f q) ih = inl (0, f, λ l. high (λ j g. cut-past (thin i) 0 j (omega arith)))
      go (pass e' n g p q) (inl ih) =
          inl (
            suc ih.0,
            subst (λ (w : Word). Satisfies b (w ih.0)) (sym p) ih.1,
            below_step (wide i) (cut (suc ih.0) (thin i)) (sym e' ∙ sym (cut_head (thin i) ih.0))
                (rw (q, cut_tail (thin i) ih.0, p) ih.2),
          )
      go (pass e' n g p q) (inr ih) = inr (below_step (wide i) (thin i) (sym e') (rw (p, q) ih))

  split_none : (k i : ℕ) → ((l : ℕ) → i ≤ l → passes (sat b) (t l) → ⊥) → BelowAt (wide i) (thin i) k
  split_none zero i e = go (both i)
    where
      go : Both i → BelowAt (wide i) (thin i) 0
      go (stuck s p q g) = same (ap (λ (w : Word). w 0) (q ∙ sym p))
      go (fire n f q) = absurd (e i (omega arith) n)
      go (pass e' n g p q) = same (sym e')
  split_none (suc k) i e = go (both i) (split_none k (suc i) (λ l h. e l (omega arith)))
    where
      go : Both i → BelowAt (wide (suc i)) (thin (suc i)) k → BelowAt (wide i) (thin i) (suc k)
      go (stuck s p q g) ih = same (ap (λ (w : Word). w (suc k)) (q ∙ sym p))
      go (fire n f q) ih = absurd (e i (omega arith) n)
      go (pass e' n g p q) ih = at_step (wide i) (thin i) k (rw (p, q) ih)

  split : Searchable t → (i : ℕ) → Split i
  split s i = go (s (sat b) i)
    where
      go : Sometime (sat b) t i ⊎ Never (sat b) t i → Split i
      go (inl h) = split_from (h.0 - i) i h.0 (omega arith) h.2
      go (inr h) = unfold Split in (inr (λ k. split_none k i h))

  -- An abort is the formula itself on the wide word.
  pub abort-wide : Searchable t → (f : Formula) (i : ℕ) → Holds (abort f b) (thin i) ↔ Holds f (wide i)
  unfolding Split
  abort-wide s f i = (out, λ h. into h (split s i))
    where
      out : Holds (abort f b) (thin i) → Holds f (wide i)
      out (inl h) = mono f (thin i) (wide i) (λ k. up k i) h
      out (inr h) = mono f (cut h.0 (thin i)) (wide i) (cut_up i h.0 h.2) h.3

      into : Holds f (wide i) → Split i → Holds (abort f b) (thin i)
      into h (inl p) = inr (p.0, satisfied_in b (thin i p.0) p.1, p.1, mono f (wide i) (cut p.0 (thin i)) p.2 h)
      into h (inr p) = inl (mono f (wide i) (thin i) p h)
