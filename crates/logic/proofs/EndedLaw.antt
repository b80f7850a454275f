-- Words that end, as an abort's cut makes them: what they are closed under, and that truth is decided on them.
use Prim.Native.Nat.{ℕ, ◌+◌, ◌-◌, ◌≤◌, ◌<◌}
use mathlib.Core.Path.{◌≡◌, refl, sym, ap, subst, fun_ext, ◌∙◌}
use mathlib.Core.Logic.Dec
use mathlib.Core.Logic.{inl, inr}
use mathlib.Core.Option.{Option, none, some}
use mathlib.Core.List.{List}
use native.Mathlib.Omega.{arith}
use native.Mathlib.Decide.{dec_lt}
use Rattle.logic.specs.Trace.{Trace, letter_at, Has}
use Rattle.logic.specs.Word.{Slot, over, plain, top, bottom, Word, filled, InWord, suffix, flip, dual, cut, slot_of, word_of}
use Rattle.logic.specs.Formula.{BoolExpr, btrue, bnot, Formula, weak, strong, fnot, fand, next, until, abort}
use Rattle.logic.specs.Meaning.{sat, Satisfies, Holds}
use Rattle.logic.proofs.MomentsLaw.{gapless, inside-before, letter_of}
use Rattle.logic.proofs.OrderLaw.{satisfied_in}
use Rattle.logic.proofs.WordLaw.{cut-past, cut_before, flip_flip}
use Rattle.logic.proofs.TestLaw.{decided_test}
use Rattle.logic.proofs.SearchLaw.{decided_below, decided_or, decided_until}

-- A word has n letters, and from there on is over, or TOP or BOTTOM for ever.
pub record EndsAt (w : Word) (n : ℕ) : Type 0 where
  pub letters : (k : ℕ) → k < n → (x : ℕ) × (w k ≡ plain x)
  pub no_letter : (x : ℕ) → w n ≡ plain x → ⊥
  pub stays : (k : ℕ) → n ≤ k → w k ≡ w n

abbrev pub Ends : Word → Type 0
Ends w = (n : ℕ) × EndsAt w n

-- TOP satisfies false, which no letter does.
top_no_letter : (s : Slot) → s ≡ top → (x : ℕ) → s ≡ plain x → ⊥
top_no_letter s e x p = subst (Satisfies (bnot btrue)) (sym e ∙ p) tt

-- What satisfies a Boolean and is no letter is TOP.
satisfied_top : (b : BoolExpr) (s : Slot) → Satisfies b s → ((x : ℕ) → s ≡ plain x → ⊥) → s ≡ top
satisfied_top b over h n = absurd h
satisfied_top b (plain x) h n = absurd (n x refl)
satisfied_top b top h n = refl
satisfied_top b bottom h n = absurd h

cut_letters : (w : Word) (j : ℕ) → ((k : ℕ) → k < j → (x : ℕ) × (w k ≡ plain x)) → EndsAt (cut j w) j
cut_letters w j letters =
    record {
      letters = λ k l. ((letters k l).0, cut_before w j k l ∙ (letters k l).1);
      no_letter = top_no_letter (cut j w j) (cut-past w j j (omega arith));
      stays = λ k l. cut-past w j k l ∙ sym (cut-past w j j (omega arith));
    }

slot_in : (o : Option ℕ) → filled (slot_of o) → Has o
slot_in none i = i
slot_in (some x) i = tt

pub cut_trace : (lead loop : List ℕ) (j : ℕ) → InWord (word_of (letter_at lead loop)) j → Ends (cut j (word_of (letter_at lead loop)))
cut_trace lead loop j i = (j, cut_letters (word_of t) j letters)
  where
    t : Trace
    t = letter_at lead loop

    letters : (k : ℕ) → k < j → (x : ℕ) × (slot_of (t k) ≡ plain x)
    letters k l =
        let h = letter_of (t k) (inside-before t (gapless lead loop) (j - k) k j (omega arith) (slot_in (t j) i)) in
        (h.0, ap slot_of h.1)

module _ {w : Word} {n : ℕ} (E : EndsAt w n) where
  ends_dual : EndsAt (dual w) n
  ends_dual =
      record {
        letters = λ k l. ((E.letters k l).0, ap flip (E.letters k l).1);
        no_letter = λ x e. E.no_letter x (sym (flip_flip (w n)) ∙ ap flip e);
        stays = λ k l. ap flip (E.stays k l);
      }

  ends_suffix : (j : ℕ) → EndsAt (suffix j w) (n - j)
  ends_suffix j =
      let same : w (j + (n - j)) ≡ w n = E.stays (j + (n - j)) (omega arith) in
      record {
        letters = λ k l. E.letters (j + k) (omega arith);
        no_letter = λ x e. E.no_letter x (sym same ∙ e);
        stays = λ k l. E.stays (j + k) (omega arith) ∙ sym same;
      }

  ends_cut : (j : ℕ) → j ≤ n → EndsAt (cut j w) j
  ends_cut j l = cut_letters w j (λ k m. E.letters k (omega arith))

  -- A cut past the end changes nothing.
  cut_late : (b : BoolExpr) (j : ℕ) → n ≤ j → Satisfies b (w j) → cut j w ≡ w
  cut_late b j l s = fun_ext (λ k. elim (dec_lt k j) [ yes c ↦ cut_before w j k c | no c ↦ cut-past w j k (omega arith) ∙ sym (at_end k (omega arith)) ])
    where
      at_end : (k : ℕ) → n ≤ k → w k ≡ top
      at_end k m = E.stays k m ∙ satisfied_top b (w n) (subst (Satisfies b) (E.stays j l) s) E.no_letter

  suffix_late : (k : ℕ) → n ≤ k → suffix (k + 1) w ≡ suffix k w
  suffix_late k l = fun_ext (λ m. E.stays (k + 1 + m) (omega arith) ∙ sym (E.stays (k + m) (omega arith)))

-- ── Truth is decided ──

decided_filled : (s : Slot) → Dec (filled s)
decided_filled over = no (λ h. h)
decided_filled (plain x) = yes tt
decided_filled top = yes tt
decided_filled bottom = yes tt

decided_satisfies : (b : BoolExpr) (s : Slot) → Dec (Satisfies b s)
decided_satisfies b over = no (λ h. h)
decided_satisfies b (plain x) = decided_test (sat b x)
decided_satisfies b top = yes tt
decided_satisfies b bottom = no (λ h. h)

-- The moment is inside, and the formula holds from there.
abbrev HoldsIn : Formula → Word → ℕ → Type 0
HoldsIn f w k = InWord w k × Holds f (suffix k w)

-- From n on the suffixes are one word.
until_ended : (f g : Formula) {w : Word} {n : ℕ} → EndsAt w n → ((k : ℕ) → Dec (Holds f (suffix k w))) → ((k : ℕ) → Dec (Holds g (suffix k w)))
    → Dec (Holds (until f g) w)
until_ended f g {w} {n} E df dg =
    Dec.of_iff (λ u. (u.0, u.2.0, u.2.1, λ j. u.3 j (omega arith)), λ u. (u.0, omega arith, (u.1, u.2), λ j l. u.3 j))
    (decided_until (λ k. Holds f (suffix k w)) (HoldsIn g w) df n 1 (omega arith) on back (λ k. Dec.and (decided_filled (w k)) (dg k)) 0)
  where
    on : (k : ℕ) → n ≤ k → Holds f (suffix k w) → Holds f (suffix (k + 1) w)
    on k l = subst (Holds f) (sym (suffix_late E k l))

    back : (k : ℕ) → n ≤ k → HoldsIn g w (k + 1) → HoldsIn g w k
    back k l h = (subst filled (E.stays (k + 1) (omega arith) ∙ sym (E.stays k l)) h.0, subst (Holds g) (suffix_late E k l) h.1)

-- From n on a cut changes nothing.
abort_ended : (f : Formula) (b : BoolExpr) {w : Word} {n : ℕ} → EndsAt w n → Dec (Holds f w) → ((j : ℕ) → j ≤ n → Dec (Holds f (cut j w)))
    → Dec (Holds (abort f b) w)
abort_ended f b {w} {n} E d dc = go d (decided_below CutAt decided_cut n)
  where
    CutAt : ℕ → Type 0
    CutAt j = Satisfies b (w j) × Holds f (cut j w)

    at : (j : ℕ) → Satisfies b (w j) → Dec (Holds f (cut j w))
    at j s =
        elim (dec_lt j n) [
          | yes c ↦ dc j (omega arith)
          | no c ↦ subst (λ (u : Word). Dec (Holds f u)) (sym (cut_late E b j (omega arith) s)) d
        ]

    decided_cut : (j : ℕ) → Dec (CutAt j)
    decided_cut j =
        elim (decided_satisfies b (w j)) [
          | yes s ↦ Dec.and (yes s) (at j s)
          | no s ↦ no (λ h. s h.0)
        ]

    go : Dec (Holds f w) → Dec ((j : ℕ) × (j < n) × CutAt j) → Dec (Holds (abort f b) w)
    go (yes h) e = yes (inl h)
    go (no h) (yes (j, l, c)) = yes (inr (j, satisfied_in b (w j) c.0, c.0, c.1))
    go (no h) (no e) = no (λ a. elim a [ inl x ↦ h x | inr (j, i, s, a) ↦ late j (s, a) (dec_lt j n) ])
      where
        late : (j : ℕ) → CutAt j → Dec (j < n) → ⊥
        late j c (yes l) = e (j, l, c)
        late j c (no l) = h (subst (Holds f) (cut_late E b j (omega arith) c.0) c.1)

pub decided_ended : (f : Formula) {w : Word} {n : ℕ} → EndsAt w n → Dec (Holds f w)
decided_ended (weak b) {w = w} E = decided_or (Dec.not (decided_filled (w 0))) (decided_satisfies b (w 0))
decided_ended (strong b) {w = w} E = Dec.and (decided_filled (w 0)) (decided_satisfies b (w 0))
decided_ended (fnot f) E = Dec.not (decided_ended f (ends_dual E))
decided_ended (fand f g) E = Dec.and (decided_ended f E) (decided_ended g E)
decided_ended (next f) {w = w} E = Dec.and (decided_filled (w 1)) (decided_ended f (ends_suffix E 1))
decided_ended (until f g) E =
    until_ended f g E (λ k. decided_ended f (ends_suffix E k)) (λ k. decided_ended g (ends_suffix E k))
decided_ended (abort f b) {n = n} E = abort_ended f b E (decided_ended f E) (λ j l. decided_ended f (ends_cut E j l))

-- ── Ends again ──

pub of_suffix : (w : Word) (j : ℕ) → Ends w → Ends (suffix j w)
of_suffix w j e = (e.0 - j, ends_suffix e.1 j)

pub of_dual : (w : Word) → Ends w → Ends (dual w)
of_dual w e = (e.0, ends_dual e.1)

pub of_cut : (w : Word) (j : ℕ) (b : BoolExpr) → Ends w → Satisfies b (w j) → Ends (cut j w)
of_cut w j b e s =
    elim (dec_lt j e.0) [
      | yes l ↦ (j, ends_cut e.1 j (omega arith))
      | no l ↦ (e.0, subst (λ (u : Word). EndsAt u e.0) (sym (cut_late e.1 b j (omega arith) s)) e.1)
    ]
