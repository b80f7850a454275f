-- What the short forms say on every word that is steady and decided, and so on a trace from any moment on.
use Prim.Native.Nat.{ℕ, suc, ◌+◌, ◌-◌, ◌≤◌, ◌<◌}
use mathlib.Core.Path.{◌≡◌, refl, sym, ap, subst, ◌∙◌}
use mathlib.Core.Logic.Dec
use mathlib.Core.Logic.Iff
use mathlib.Core.Logic.{◌⊎◌, inl, inr, ◌↔◌}
use mathlib.Core.Option.{Option, none, some}
use mathlib.Core.List.{List}
use native.Mathlib.Omega.{arith}
use native.Mathlib.Decide.{dec_lt}
use Rattle.logic.specs.Trace.{Trace, letter_at, Has}
use Rattle.logic.specs.Word.{Slot, over, plain, top, bottom, Word, filled, InWord, suffix, flip, dual, slot_of, word_of}
use Rattle.logic.specs.Formula.{btrue, Formula, strong, fnot, until}
use Rattle.logic.specs.Meaning.{Satisfies, Holds}
use Rattle.logic.specs.Written.{or, implies, weak_next, eventually, always, weak_until, before}
use Rattle.logic.specs.ShortForms.{Says, ShortForms}
use Rattle.logic.proofs.MomentsLaw.{gapless, inside-before, outside}
use Rattle.logic.proofs.OrderLaw.{fails_bottom}
use Rattle.logic.proofs.WordLaw.{suffix-zero, flip_flip, dual_dual, dual_trace}
use Rattle.logic.proofs.SearchLaw.{earliest_below, decided_below, decided_or}
use Rattle.logic.proofs.SuffixLaw.{OfTrace, of_trace, of_trace_suffix}
use Rattle.logic.proofs.DecideLaw.{decided_holds}

-- From the first moment with no letter on a word stays as it is there.
abbrev pub Steady : Word → Type 0
Steady w = (j : ℕ) → ((x : ℕ) × (w j ≡ plain x)) ⊎ ((k : ℕ) → j ≤ k → w k ≡ w j)

abbrev pub Decided : Word → Type 0
Decided w = (f : Formula) (k : ℕ) → Dec (Holds f (suffix k w))

-- ── The dual ──

filled_flip : (s : Slot) → filled s → filled (flip s)
filled_flip over h = h
filled_flip (plain x) h = tt
filled_flip top h = tt
filled_flip bottom h = tt

flip_filled : (s : Slot) → filled (flip s) → filled s
flip_filled s h = subst filled (flip_flip s) (filled_flip (flip s) h)

-- Negation on the dual word is plain.
not_dual : (f : Formula) (w : Word) → Holds (fnot f) (dual w) ↔ (Holds f w → ⊥)
not_dual f w = (λ h a. h (subst (Holds f) (sym (dual_dual w)) a), λ h a. h (subst (Holds f) (dual_dual w) a))

steady_dual : (w : Word) → Steady w → Steady (dual w)
steady_dual w steady j = elim (steady j) [ inl (x, e) ↦ inl (x, ap flip e) | inr q ↦ inr (λ k l. ap flip (q k l)) ]

letter_or_top : (s : Slot) → filled s → (s ≡ bottom → ⊥) → filled s × Satisfies btrue s
letter_or_top over i n = absurd i
letter_or_top (plain x) i n = (tt, tt)
letter_or_top top i n = (tt, tt)
letter_or_top bottom i n = absurd (n refl)

-- ── A steady word ──

module _ (w : Word) (steady : Steady w) where
  inside_earlier : (j k : ℕ) → j ≤ k → InWord w k → InWord w j
  inside_earlier j k l i = elim (steady j) [ inl (x, e) ↦ subst filled (sym e) tt | inr q ↦ subst filled (q k l) i ]

  -- Where a formula holds from a later moment on, there is a letter or TOP.
  strong_true : (f : Formula) (j k : ℕ) → j < k → InWord w k → Holds f (suffix k w) → Holds (strong btrue) (suffix j w)
  strong_true f j k l i h =
      elim (steady (j + 0)) [
        | inl (x, e) ↦ subst (λ (s : Slot). filled s × Satisfies btrue s) (sym e) (tt, tt)
        | inr q ↦
            letter_or_top (w (j + 0)) (inside_earlier (j + 0) k (omega arith) i)
            (λ e. fails_bottom (suffix k w) f (λ m. q (k + m) (omega arith) ∙ e) h)
      ]

  holds_eventually : (f : Formula) → Holds (eventually f) w ↔ ((k : ℕ) × InWord w k × Holds f (suffix k w))
  holds_eventually f = (λ h. (h.0, h.1, h.2), λ h. (h.0, h.1, h.2, λ j l. strong_true f j h.0 l h.1 h.2))

-- ── Such a word on which truth is decided ──

module _ {w : Word} (steady : Steady w) (decided : Decided w) where
  stable_from : (f : Formula) (k : ℕ) → ((Holds f (suffix k w) → ⊥) → ⊥) → Holds f (suffix k w)
  stable_from f k = (Dec.not-not (decided f k)).0

  decided_now : (f : Formula) → Dec (Holds f w)
  decided_now f = subst (λ (u : Word). Dec (Holds f u)) (suffix-zero w) (decided f 0)

  holds_or : (f g : Formula) → Holds (or f g) w ↔ (Holds f w ⊎ Holds g w)
  holds_or f g = (
    λ h. (Dec.not-not (decided_or (decided_now f) (decided_now g))).0
        (λ n. h ((not_dual f w).1 (λ a. n (inl a)), (not_dual g w).1 (λ b. n (inr b)))),
    λ h n. elim h [ inl a ↦ (not_dual f w).0 n.0 a | inr b ↦ (not_dual g w).0 n.1 b ],
  )

  holds_weak_next : (f : Formula) → Holds (weak_next f) w ↔ (InWord w 1 → Holds f (suffix 1 w))
  holds_weak_next f = (
    λ h i. stable_from f 1 (λ n. h (filled_flip (w 1) i, (not_dual f (suffix 1 w)).1 n)),
    λ h n. (not_dual f (suffix 1 w)).0 n.1 (h (flip_filled (w 1) n.0)),
  )

  holds_always : (f : Formula) → Holds (always f) w ↔ ((k : ℕ) → InWord w k → Holds f (suffix k w))
  holds_always f =
      let sometime = holds_eventually (dual w) (steady_dual w steady) (fnot f) in (
        λ h k i. stable_from f k (λ n. h (sometime.1 (k, filled_flip (w k) i, (not_dual f (suffix k w)).1 n))),
        λ h e. (not_dual f (suffix e.0 w)).0 e.2 (h e.0 (flip_filled (w e.0) e.1)),
      )

  holds_weak_until : (f g : Formula)
      → Holds (weak_until f g) w ↔ ((k : ℕ) → InWord w k → Holds f (suffix k w) ⊎ ((j : ℕ) × (j ≤ k) × Holds g (suffix j w)))
  holds_weak_until f g = (
    λ h k i.
        elim ((holds_or (until f g) (always f)).0 h) [
          | inl u ↦ elim (dec_lt k u.0) [ yes l ↦ inl (u.3 k l) | no l ↦ inr (u.0, omega arith, u.2) ]
          | inr a ↦ inl ((holds_always f).0 a k i)
        ],
    λ h. (holds_or (until f g) (always f)).1 (elim (decided_now (eventually g)) [ yes e ↦ inl (ended h e) | no n ↦ inr (endless h n) ]),
  )
    where
      Weak : Type 0
      Weak = (k : ℕ) → InWord w k → Holds f (suffix k w) ⊎ ((j : ℕ) × (j ≤ k) × Holds g (suffix j w))

      ended : Weak → Holds (eventually g) w → Holds (until f g) w
      ended h (k, i, b, t) =
          elim (earliest_below (λ j. Holds g (suffix j w)) (decided g) 0 (suc k)) [
            | inl (m, l, E) ↦ (
              m,
              inside_earlier w steady m k (omega arith) i,
              E.holds,
              λ j q.
                  elim (h j (inside_earlier w steady j k (omega arith) i)) [
                    | inl a ↦ a
                    | inr (o, r, c) ↦ absurd (E.none_before o (omega arith) (omega arith) c)
                  ],
            )
            | inr never ↦ absurd (never k (omega arith) (omega arith) b)
          ]

      endless : Weak → (Holds (eventually g) w → ⊥) → Holds (always f) w
      endless h n =
          (holds_always f).1 (λ k i. elim (h k i) [
            | inl a ↦ a
            | inr (j, l, b) ↦ absurd (n ((holds_eventually w steady g).1 (j, inside_earlier w steady j k l i, b)))
          ])

  holds_implies : (f g : Formula) → Holds (implies f g) w ↔ (Holds f (dual w) → Holds g w)
  holds_implies f g =
      let one = holds_or (fnot f) g in (
        λ h a. elim (one.0 h) [ inl n ↦ absurd (n a) | inr b ↦ b ],
        λ h. one.1 (elim (decided_now g) [ yes b ↦ inr b | no n ↦ inl (λ a. n (h a)) ]),
      )

  holds_before : (f g : Formula)
      → Holds (before f g) w ↔ ((k : ℕ) → InWord w k → Holds g (suffix k (dual w)) → (j : ℕ) × (j < k) × Holds f (suffix j w))
  holds_before f g = (
    λ h k i b.
        (Dec.not-not (decided_below (λ j. Holds f (suffix j w)) (decided f) k)).0
        (λ n. h (k, filled_flip (w k) i, b, λ j l. (not_dual f (suffix j w)).1 (λ a. n (j, l, a)))),
    λ h u. let j = h u.0 (flip_filled (w u.0) u.1) u.2 in (not_dual f (suffix j.0 w)).0 (u.3 j.0 j.1) j.2,
  )

  pub says_steady : Says w (dual w)
  says_steady =
      record {
        says_or = holds_or;
        says_implies = holds_implies;
        says_iff = λ f g. Iff.and (holds_implies f g) (holds_implies g f);
        says_weak_next = holds_weak_next;
        says_eventually = holds_eventually w steady;
        says_always = holds_always;
        says_weak_until = holds_weak_until;
        says_before = holds_before;
      }

-- ── The word of a trace ──

steady_trace : (lead loop : List ℕ) → Steady (word_of (letter_at lead loop))
steady_trace lead loop j = go (letter_at lead loop j) refl
  where
    t : Trace
    t = letter_at lead loop

    go : (o : Option ℕ) → t j ≡ o → ((x : ℕ) × (slot_of (t j) ≡ plain x)) ⊎ ((k : ℕ) → j ≤ k → slot_of (t k) ≡ slot_of (t j))
    go (some x) e = inl (x, ap slot_of e)
    go none e =
        inr (λ k l.
        let past : t k ≡ none = outside (t k) (λ h. subst Has e (inside-before t (gapless lead loop) (k - j) j k (omega arith) h)) in
        ap slot_of (past ∙ sym e))

pub says_trace : {w : Word} → OfTrace w → Says w (dual w)
says_trace o = says_steady (subst Steady o.word (steady_trace o.lead o.loop)) (λ f k. decided_holds f (of_trace_suffix k o))

pub short_forms : ShortForms
short_forms lead loop i =
    let t : Trace = λ k. letter_at lead loop (i + k) in
    subst (Says (word_of t)) (dual_trace t) (says_trace (of_trace_suffix i (of_trace lead loop)))
