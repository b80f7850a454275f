-- What the short forms say on words with TOP or BOTTOM.
use mathlib.Core.Path.{◌≡◌, sym, ap, subst, fun_ext, ◌∙◌}
use mathlib.Core.Logic.{◌⊎◌, inl, inr}
use mathlib.Core.List.{[], ◌∷◌}
use Prim.Native.Nat.{ℕ, ◌%◌}
use native.Mathlib.Omega.{arith}
use native.Mathlib.Decide.{dec_lt}
use lib.ListN.{get_or}
use Rattle.logic.specs.Trace.{letter_at}
use Rattle.logic.specs.Word.{plain, top, bottom, Word, dual, cut}
use Rattle.logic.specs.Formula.{BoolExpr, bnot, btrue, Formula, strong, next}
use Rattle.logic.specs.Meaning.{Satisfies, Holds}
use Rattle.logic.specs.Written.{implies, iff, before}
use Rattle.logic.specs.ShortForms.{Says, Arises, by_trace, by_suffix, by_dual, by_cut, ever, BeyondTraces}
use Rattle.logic.proofs.OrderLaw.{extreme, satisfied_in}
use Rattle.logic.proofs.WordLaw.{cut-past, dual_trace}
use Rattle.logic.proofs.SuffixLaw.{OfTrace, of_trace, of_trace_suffix}
use Rattle.logic.proofs.EndedLaw.{EndsAt, Ends, cut_trace, of_cut, of_suffix, of_dual, decided_ended}
use Rattle.logic.proofs.ShortLaw.{Steady, says_steady, says_trace}

-- ── A word that arises is that of a trace, or it ends ──

of_trace_dual : {w : Word} → OfTrace w → OfTrace (dual w)
of_trace_dual o = record { lead = o.lead; loop = o.loop; word = sym (dual_trace (letter_at o.lead o.loop)) ∙ ap dual o.word }

of_trace_cut : {w : Word} (j : ℕ) (b : BoolExpr) → Satisfies b (w j) → OfTrace w → Ends (cut j w)
of_trace_cut {w} j b s o =
    subst (λ (u : Word). Ends (cut j u)) o.word
    (cut_trace o.lead o.loop j (satisfied_in b _ (subst (λ (u : Word). Satisfies b (u j)) (sym o.word) s)))

two_kinds : {w : Word} → Arises w → OfTrace w ⊎ Ends w
two_kinds (by_trace lead loop) = inl (of_trace lead loop)
two_kinds (by_suffix w j a) = elim (two_kinds a) [ inl o ↦ inl (of_trace_suffix j o) | inr e ↦ inr (of_suffix w j e) ]
two_kinds (by_dual w a) = elim (two_kinds a) [ inl o ↦ inl (of_trace_dual o) | inr e ↦ inr (of_dual w e) ]
two_kinds (by_cut w j b s a) = elim (two_kinds a) [ inl o ↦ inr (of_trace_cut j b s o) | inr e ↦ inr (of_cut w j b e s) ]

steady_ended : {w : Word} {n : ℕ} → EndsAt w n → Steady w
steady_ended {n = n} E j =
    elim (dec_lt j n) [
      | yes c ↦ inl (E.letters j c)
      | no c ↦ inr (λ k l. E.stays k (omega arith) ∙ sym (E.stays j (omega arith)))
    ]

says : (w : Word) → Arises w → Says w (dual w)
says w a =
    elim (two_kinds a) [
      | inl o ↦ says_trace o
      | inr e ↦ says_steady (steady_ended e.1) (λ f k. decided_ended f (of_suffix w k e).1)
    ]

-- ── Where w itself would be wrong ──

-- The letter 0 for ever.
by_letters : Arises (ever (plain 0))
unfolding letter_at
by_letters = subst Arises (fun_ext (λ k. ap (λ (n : ℕ). plain (get_or (0 ∷ []) n 0)) (first k))) (by_trace [] (0 ∷ []))
  where
    first : (k : ℕ) → k % 1 ≡ 0
    first k = omega arith

by_tops : Arises (ever top)
by_tops = subst Arises (fun_ext (λ k. cut-past (ever (plain 0)) 0 k (omega arith))) (by_cut (ever (plain 0)) 0 btrue tt by_letters)

none_holds : (f : Formula) → Holds f (ever bottom) → ⊥
none_holds f = (extreme f).1

all_hold : (f : Formula) → Holds f (ever top)
all_hold f = (extreme f).0

both_ways : let g = strong (bnot btrue) in Holds (iff (next g) g) (cut 1 (ever (plain 0)))
both_ways = (λ h. h.0 (λ a. a.1.1), λ h. h.1 (tt, (tt, tt)))

pub beyond_traces : BeyondTraces
beyond_traces =
    record {
      says = says;
      dual_trace = dual_trace;
      three_arise = (by_dual (ever top) by_tops, by_tops, by_cut (ever (plain 0)) 1 btrue tt by_letters);
      bottom_implies = λ f g e. none_holds (implies f g) (e.1 (λ a. absurd (none_holds f a)));
      bottom_iff = λ f g e. none_holds (iff f g) (e.1 (λ a. absurd (none_holds f a), λ b. absurd (none_holds g b)));
      bottom_before = λ f g e. none_holds (before f g) (e.1 (λ k i b. absurd (none_holds g b)));
      top_before = λ f g e. let early = e.0 (all_hold (before f g)) 0 tt (all_hold g) in omega (arith, early.1);
      top_implies = λ e. (e.0 both_ways.0 (tt, (tt, tt))).1;
      top_iff = λ e. ((e.0 both_ways).0 (tt, (tt, tt))).1;
    }
