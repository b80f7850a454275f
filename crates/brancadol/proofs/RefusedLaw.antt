-- The answer to a refusal tells all of it: the place of each has room beside the number.
use mathlib.Core.Path.{◌≡◌, refl, sym, ap, subst, ◌∙◌}
use mathlib.Core.Bool.{Bool, true, false, cond}
use mathlib.Core.Option.{Option, none, some}
use mathlib.Core.List.{List}
use Prim.Native.Nat.{ℕ, ◌+◌, ◌<◌}
use native.Mathlib.Omega.{arith}
use lib.ListN.{length}
use Rattle.std.specs.Prelude.{Option as Maybe, None, Some, Result, Ok, Err}
use Rattle.trace.specs.declared.refusal.Refusal.{Refusal}
use Rattle.trace.specs.declared.refusal.Refusal.TheVariants.{LongTrace, EmptyTrace, TableRoom, LineRoom, NoMoment}
use Rattle.logic.specs.Trace.{letter_at}
use Rattle.trace.specs.Refusal.{number, place}
use Rattle.trace.specs.Answer.{found}
use Rattle.trace.specs.Verdict.{long_refusal, empty_refusal}
use Rattle.trace.proofs.ReasonLaw.{of_none, of_unless, of_either}
use Rattle.trace.proofs.ToldLaw as told
use Rattle.table.specs.Node.{Node}
use Rattle.table.proofs.CheckLaw.{was_refused}
use Rattle.psl.specs.Check.{psl_refusal}
use Rattle.psl.proofs.PlacedLaw.{psl_placed, carried_inside}
use Rattle.ltl.specs.Check.{ltl_refusal}
use Rattle.ltl.proofs.ClaimsLaw as ltl
use Rattle.psl_verdict.specs.Verdict.{psl_verdict_refusal}
use Rattle.ltl_verdict.specs.Verdict.{ltl_verdict_refusal}
use Rattle.translate.specs.Answer.{translate_refusal, answer}
use Rattle.text.proofs.ReadingLaw.{place_within}
use Rattle.formula_lines.proofs.LimitsLaw as formulas
use Rattle.trace_lines.proofs.LimitsLaw as traces
use Rattle.node_lines.specs.Spelling.{node_line}
use Rattle.node_lines.specs.NodeAnswer.{node_fault, answer_to, node_answer}
use Rattle.node_lines.proofs.ClaimsLaw as nodes
use Rattle.brancadol.specs.Coded.{code, place_value, refusal_code}
use Rattle.brancadol.specs.Refused.{Refused, by_psl_check, by_ltl_check, by_psl_verdict, by_ltl_verdict, by_translation, by_formula, by_trace, by_node, by_letter}

-- Its place has room.
abbrev Fits : Refusal → Type 0
Fits x = (p : ℕ) → place x ≡ Some p → 1 + p < 72057594037927936

unplaced : (x : Refusal) → place x ≡ None → Fits x
unplaced x e p h = let z : ◌≡◌ {A = Maybe ℕ} None (Some p) = sym e ∙ h in cc

module _ (x : Refusal) where
  psl_fits : (t : List ℕ) → psl_refusal t ≡ some x → Fits x
  psl_fits t e p h = let (c, few) = psl_placed t x p h e in omega (arith, carried_inside c, few)

  ltl_fits : (t : List ℕ) → ltl_refusal t ≡ some x → Fits x
  ltl_fits t e p h = let (l, few) = (ltl.claims).placed t x p e h in omega (arith, l.inside, few)

  long_fits : (lead loop : List ℕ) → long_refusal lead loop ≡ some x → Fits x
  long_fits lead loop = of_unless Fits x _ LongTrace none (unplaced LongTrace refl) (of_none Fits x)

  psl_verdict_fits : (t lead loop : List ℕ) → psl_verdict_refusal t lead loop ≡ some x → Fits x
  unfolding psl_verdict_refusal
  psl_verdict_fits t lead loop = of_either Fits x (psl_refusal t) _ (psl_fits t) (long_fits lead loop)

  ltl_verdict_fits : (t lead loop : List ℕ) → ltl_verdict_refusal t lead loop ≡ some x → Fits x
  unfolding ltl_verdict_refusal
  ltl_verdict_fits t lead loop =
      of_either Fits x _ (empty_refusal lead loop) (of_either Fits x (ltl_refusal t) _ (ltl_fits t) (long_fits lead loop))
      (of_unless Fits x _ EmptyTrace none (unplaced EmptyTrace refl) (of_none Fits x))

  translation_fits : (t : List ℕ) (room : ℕ) → translate_refusal t room ≡ some x → Fits x
  unfolding translate_refusal
  translation_fits t room = of_either Fits x (psl_refusal t) _ (psl_fits t) (of_unless Fits x _ TableRoom none (unplaced TableRoom refl) (of_none Fits x))

  answered : (o : Option Refusal) (s : ℕ) → Err x ≡ answer o s → o ≡ some x
  answered none s e = cc
  answered (some y) s e = cc

  node_fits : (i : ℕ) (n : Node) (room : ℕ) → node_answer i n room ≡ Err x → Fits x
  node_fits i n room e = go (node_fault i n) refl e
    where
      ended : (b : Bool) (w : ℕ) → ◌≡◌ {A = Result ℕ Refusal} (cond b (Err LineRoom) (Ok w)) (Err x) → Fits x
      ended true w d = let z : LineRoom ≡ x = cc in subst Fits z (unplaced LineRoom refl)
      ended false w d = cc

      go : (o : Option Refusal) → node_fault i n ≡ o → answer_to o (node_line i n) room ≡ Err x → Fits x
      go none f d = ended _ _ d
      go (some y) f d =
          let z : y ≡ x = cc in
          λ p h. let (own, few) = (nodes.claims).own i p n x (f ∙ ap (λ (r : Refusal). some r) z) h in omega (arith, own, few)

  letter_fits : (o : Option ℕ) → Err x ≡ found o → Fits x
  letter_fits none e = let z : NoMoment ≡ x = cc in subst Fits z (unplaced NoMoment refl)
  letter_fits (some l) e = cc

  fits : Refused x → Fits x
  fits (by_psl_check t e) = psl_fits t (was_refused (psl_refusal t) _ x e refl)
  fits (by_ltl_check t e) = ltl_fits t (was_refused (ltl_refusal t) _ x e refl)
  fits (by_psl_verdict t lead loop e) = psl_verdict_fits t lead loop e
  fits (by_ltl_verdict t lead loop e) = ltl_verdict_fits t lead loop e
  fits (by_translation t l m d) = translation_fits t (length l) (answered _ _ d.answers)
  fits (by_formula s l m (a, _)) = λ p h. omega (arith, place_within (λ w. formulas.refusal-unplaced w (length l)) a p h)
  fits (by_trace s k l m n (a, _, _)) = λ p h. omega (arith, place_within (λ t. traces.refusal-unplaced t (length k) (length l)) a p h)
  fits (by_node i n room e) = node_fits i n room e
  fits (by_letter lead loop m e) = letter_fits (letter_at lead loop m) e

-- Where both have room, a code tells number and value.
told_apart : (o p : Maybe ℕ) → ((i : ℕ) → o ≡ Some i → 1 + i < 72057594037927936) → ((i : ℕ) → p ≡ Some i → 1 + i < 72057594037927936) → (m n : ℕ) → m < 256 → n < 256
    → code m (place_value o) ≡ code n (place_value p) → ◌≡◌ {A = ℕ × Maybe ℕ} (m, o) (n, p)
told_apart None None f g m n h k e = let l : m ≡ n = omega (arith, e) in cc
told_apart None (Some j) f g m n h k e = absurd (omega (arith, e, g j refl))
told_apart (Some i) None f g m n h k e = absurd (omega (arith, e, f i refl))
told_apart (Some i) (Some j) f g m n h k e =
    let d : i ≡ j = omega (arith, e, f i refl, g j refl) in
    let l : m ≡ n = omega (arith, e, f i refl, g j refl) in
    cc

pub one_refusal : (x y : Refusal) → Refused x → Refused y → refusal_code x ≡ refusal_code y → x ≡ y
one_refusal x y a b e =
    told.one_refusal x y (told_apart (place x) (place y) (fits x a) (fits y b) (number x) (number y) (told.number_small x) (told.number_small y) e)
