-- The statements of `Claims`.
use Rattle.std.specs.Prelude.{Bool, true, false, Result, Ok, Err}
use mathlib.Core.Path.{◌≡◌, refl, ap, sym, subst, ◌∙◌}
use mathlib.Core.Logic.{inl, inr, ◌↔◌}
use mathlib.Core.Option.{Option, none, some}
use mathlib.Core.List.{List, [], ◌∷◌, ◌++◌}
use Prim.Native.Nat.{ℕ, suc, ◌+◌, ◌^◌, ◌<◌, ◌≤◌}
use lib.ListN.{length}
use native.Mathlib.Omega.{arith}
use native.Mathlib.Decide.{dec_lt}
use borrow.Author.Tests.{lt-ltb}
use Rattle.logic.specs.Trace.{size}
use Rattle.logic.specs.Formula.{Formula}
use Rattle.logic.specs.Written.{Written, spelled_out}
use Rattle.logic.specs.Meaning.{HoldsOn}
use Rattle.logic.specs.LtlMeaning.{LtlHoldsOn}
use Rattle.trace.specs.declared.refusal.Refusal.{Refusal}
use Rattle.trace.specs.Refusal.{or_else}
use Rattle.trace.specs.Verdict.{long_refusal, Judges}
use Rattle.trace.proofs.JudgesLaw.{one_verdict}
use Rattle.psl.specs.Table.{formula_of}
use Rattle.psl.specs.Check.{psl_refusal}
use Rattle.ltl.specs.Table.{tree_of}
use Rattle.ltl.specs.Check.{ltl_refusal}
use Rattle.translate.specs.Emitted.{emitted}
use Rattle.translate.proofs.ClaimsLaw as translator
use Rattle.translate.proofs.TranslatesLaw.{translates}
use Rattle.psl_verdict.specs.Verdict.{psl_verdict_refusal, PslJudges}
use Rattle.ltl_verdict.specs.Verdict.{ltl_verdict_refusal, LtlJudges}
use Rattle.text.specs.Text.{text}
use Rattle.text.proofs.ReadingLaw.{taken_alone, not_both, refused_alone, place_within}
use Rattle.formula_lines.specs.Spelling.{formula_line}
use Rattle.formula_lines.specs.FormulaAnswer.{formula_limits}
use Rattle.formula_lines.proofs.FormulaLaw.{formula_injective}
use Rattle.trace_lines.specs.Spelling.{TraceLists, line_of_trace}
use Rattle.trace_lines.specs.TraceAnswer.{trace_limits}
use Rattle.trace_lines.proofs.TraceLaw.{trace_alone}
use Rattle.trace_lines.proofs.LimitsLaw.{limits-unplaced}
use Rattle.answers.specs.Inner.{PlacedWithin}
use Rattle.printing.specs.Printed.{refused_text, verdict_text, table_text}
use Rattle.printing.specs.Limits.{most_later}
use Rattle.printing.proofs.PrintedLaw.{trace-short, refused-short}
use Rattle.answers.specs.Claims.{Claims}
use Rattle.answers.specs.Answer.{VerdictOn, Judged, LaterAnswer, later_text}
use Rattle.answers.specs.Input.{input_lines}
use Rattle.answers.specs.Whole.{PrintsTraces, Prints}
use Rattle.answers.specs.declared.Verdicts.{Verdicts}

-- ── Verdicts ──

-- On a trace with letters, tables that their checks accept are refused alike.
refused_alike : (t u lead loop : List ℕ) → psl_refusal t ≡ none → ltl_refusal u ≡ none → 0 < size lead loop
    → ltl_verdict_refusal u lead loop ≡ psl_verdict_refusal t lead loop
unfolding psl_verdict_refusal ltl_verdict_refusal
refused_alike t u lead loop e d h = rw (e, d, lt-ltb 0 (size lead loop) h) (then_none (long_refusal lead loop))
  where
    then_none : (o : Option Refusal) → or_else o none ≡ o
    then_none none = refl
    then_none (some x) = refl

agree_tables : (t lead loop : List ℕ) (v w : Result Bool Refusal) → psl_refusal t ≡ none → 0 < size lead loop
    → PslJudges t lead loop v → LtlJudges (emitted (formula_of t)) lead loop w → v ≡ w
agree_tables t lead loop v w e h p q =
    let u = emitted (formula_of t) in
    let alike = refused_alike t u lead loop e ((translator.claims).passes t e) h in
    let q' = subst (λ (o : Option Refusal). Judges o (LtlHoldsOn (tree_of u) lead loop) w) alike q in
    one_verdict (psl_verdict_refusal t lead loop) (translates (formula_of t) lead loop h) v w p q'

-- The verdict on a claim is one that nothing refuses.
unrefused : (A : Type 0) (v : Result Bool Refusal) → VerdictOn A v → Judges none A v
unrefused A (Ok true) a = (refl, a)
unrefused A (Ok false) a = (refl, a)
unrefused A (Err x) a = absurd a

-- Verdicts on claims that hold together are equal.
tells_both : {A B : Type 0} → (A ↔ B) → (v w : Result Bool Refusal) → VerdictOn A v → VerdictOn B w → v ≡ w
tells_both {A} {B} e v w a b = one_verdict none e v w (unrefused A v a) (unrefused B w b)

module _ (f : Formula) (t : TraceLists) where
  agree_lines : (v w : Result Bool Refusal) → Judged f t v w → 0 < size t.lead t.loop → v ≡ w
  agree_lines v w j h = tells_both (translates f t.lead t.loop h) v w j.psl (j.ltl h)

  judged_alone : (v w v' w' : Result Bool Refusal) → Judged f t v w → Judged f t v' w' → (v ≡ v') × (w ≡ w')
  judged_alone v w v' w' j k = (tells_both (λ a. a, λ a. a) v v' j.psl k.psl, second)
    where
      second : w ≡ w'
      second =
          elim (dec_lt 0 (size t.lead t.loop)) [
            | yes h ↦ tells_both (λ a. a, λ a. a) w w' (j.ltl h) (k.ltl h)
            | no h ↦ j.empty (omega arith) ∙ sym (k.empty (omega arith))
          ]

  abbrev Ltl : Type 0
  Ltl = LtlHoldsOn (tree_of (emitted f)) t.lead t.loop

  -- What is printed as none is refused.
  decided : (A : Type 0) (v : Result Bool Refusal) → VerdictOn A v → verdict_text v ≡ text "none" → ⊥
  unfolding verdict_text
  decided A (Ok true) a e = let z : ◌≡◌ {A = ℕ} 0 1 = cc in omega arith
  decided A (Ok false) a e = let z : ◌≡◌ {A = ℕ} 0 1 = cc in omega arith
  decided A (Err x) a e = a

  none_ltl : (v w : Result Bool Refusal) → Judged f t v w → (verdict_text w ≡ text "none") ↔ (size t.lead t.loop ≡ 0)
  unfolding verdict_text
  none_ltl v w j =
      (λ e. elim (dec_lt 0 (size t.lead t.loop)) [ yes h ↦ absurd (decided Ltl w (j.ltl h) e) | no h ↦ omega arith ], λ h. ap verdict_text (j.empty h))

-- ── Lines ──

same_verdicts : (a b : Verdicts) → a.psl ≡ b.psl → a.ltl ≡ b.ltl → a ≡ b
same_verdicts a b p q =
    ap (λ (v : Result Bool Refusal). let z : Verdicts = record { psl = v; ltl = a.ltl } in z) p
    ∙ ap (λ (w : Result Bool Refusal). let z : Verdicts = record { psl = b.psl; ltl = w } in z) q

later_alone : (f : Formula) (line : List ℕ) (r q : Result Verdicts Refusal) → LaterAnswer f line r → LaterAnswer f line q → r ≡ q
later_alone f line (Ok c) (Ok d) (t, a, j) (u, b, k) =
    let e = taken_alone line_of_trace trace_alone trace_limits b a in
    let (p, q) = judged_alone f t c.psl c.ltl d.psl d.ltl j (subst (λ (x : TraceLists). Judged f x d.psl d.ltl) e k) in
    ap (λ (z : Verdicts). Ok z) (same_verdicts c d p q)
later_alone f line (Ok c) (Err x) (t, a, j) b = absurd (not_both line_of_trace trace_alone trace_limits a b)
later_alone f line (Err x) (Ok c) b (t, a, j) = absurd (not_both line_of_trace trace_alone trace_limits a b)
later_alone f line (Err x) (Err y) a b = ap (λ (z : Refusal). Err z) (refused_alone line_of_trace trace_alone trace_limits a b)

-- ── Runs ──

traces_alone : (f : Formula) (i : ℕ) (ls : List (List ℕ)) (out out' : List ℕ) → PrintsTraces f i ls out → PrintsTraces f i ls out' → out ≡ out'
traces_alone f i [] out out' p q = p ∙ sym q
traces_alone f i (line ∷ ls) out out' (r, rest, a, e, p) (q, rest', b, e', p') =
    let same = later_alone f line r q a b in
    let tail = traces_alone f (suc i) ls rest rest' p p' in
    e ∙ ap (λ (x : List ℕ). later_text i r ++ x) tail ∙ ap (λ (x : Result Verdicts Refusal). later_text i x ++ rest') same ∙ sym e'

prints_alone : (ls : List (List ℕ)) (out out' : List ℕ) → Prints ls out → Prints ls out' → out ≡ out'
prints_alone [] out out' p q = absurd p
prints_alone (line ∷ ls) out out' (inl (f, rest, a, e, p)) (inl (g, rest', b, e', p')) =
    let d = taken_alone formula_line formula_injective formula_limits b a in
    let tail = traces_alone (spelled_out f) 1 ls rest rest' p (subst (λ (x : Written). PrintsTraces (spelled_out x) 1 ls rest') d p') in
    e ∙ ap (λ (x : List ℕ). table_text (emitted (spelled_out f)) ++ x) tail ∙ ap (λ (x : Written). table_text (emitted (spelled_out x)) ++ rest') (sym d) ∙ sym e'
prints_alone (line ∷ ls) out out' (inl (f, rest, a, e, p)) (inr (x, b, e')) = absurd (not_both formula_line formula_injective formula_limits a b)
prints_alone (line ∷ ls) out out' (inr (x, b, e')) (inl (f, rest, a, e, p)) = absurd (not_both formula_line formula_injective formula_limits a b)
prints_alone (line ∷ ls) out out' (inr (x, a, e)) (inr (y, b, e')) =
    e ∙ ap (refused_text 1) (refused_alone formula_line formula_injective formula_limits a b) ∙ sym e'

-- ── Lengths ──

pub later-short : (i : ℕ) (a : Result Verdicts Refusal) → PlacedWithin a → i + 1 < 2 ^ 64 → length (later_text i a) ≤ most_later
later-short i (Ok b) w h = trace-short i _ _ (omega arith)
later-short i (Err x) w h = refused-short (suc i) x (omega arith) (λ p e. omega (arith, w p e))

later_within : (f : Formula) (line : List ℕ) (a : Result Verdicts Refusal) → LaterAnswer f line a → PlacedWithin a
later_within f line (Ok b) e = tt
later_within f line (Err x) e = place_within limits-unplaced e

pub claims : Claims
claims =
    record {
      agree_tables = agree_tables;
      agree_lines = agree_lines;
      one_answer = later_alone;
      one_output = λ input out out' p q. prints_alone (input_lines input) out out' p q;
      none_ltl = none_ltl;
      none_psl = λ f t v w j. decided f t (HoldsOn f t.lead t.loop) v j.psl;
      later_short = λ f line i a e. later-short i a (later_within f line a e);
    }
