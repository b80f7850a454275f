-- What the readers, the translator and the verdicts answer, in the terms of a run.
use Rattle.std.specs.Prelude.{Bool, true, false, Some, Result, Ok, Err}
use Rattle.trace.specs.declared.refusal.Refusal.TheVariants.{EmptyTrace, ListRoom}
use mathlib.Core.Path.{◌≡◌, refl, ap, sym, subst, ◌∙◌}
use mathlib.Core.Option.{Option, none, some, some-ne-none}
use mathlib.Core.List.{List}
use Prim.Native.Nat.{ℕ, ◌*◌, ◌≤◌}
use native.Mathlib.Omega.{arith}
use borrow.Author.Tests.{le-leb, leb-true}
use lib.Dec.{leb}
use lib.ListN.{length, take, replicate, length-replicate, length-take}
use Rattle.trace.specs.Limits.{most_letters}
use Rattle.logic.specs.Trace.{size}
use Rattle.trace.specs.declared.refusal.Refusal.{Refusal}
use Rattle.trace.specs.Refusal.{place, unless}
use Rattle.text.specs.Limits.{most_bytes}
use Rattle.trace.specs.Verdict.{Judges}
use Rattle.table.specs.Node.{numbers_of}
use Rattle.table.proofs.NodeLaw.{length-numbers}
use Rattle.table.proofs.CheckLaw.{or-none, unless-none}
use Rattle.logic.specs.Formula.{Formula}
use Rattle.logic.specs.Written.{Written, spelled_out}
use Rattle.logic.specs.Meaning.{HoldsOn}
use Rattle.psl.specs.Table.{formula_of}
use Rattle.psl.specs.Check.{psl_rules, psl_refusal}
use Rattle.logic.specs.LtlMeaning.{LtlHoldsOn}
use Rattle.ltl.specs.Table.{tree_of}
use Rattle.ltl.specs.Check.{ltl_rules, ltl_refusal}
use Rattle.translate.specs.Emitted.{emitted, emitted_size}
use Rattle.translate.specs.Answer.{translate_refusal, answer, Delivers}
use Rattle.translate.proofs.DeliversLaw.{size-most}
use Rattle.translate.proofs.EmittedLaw.{emitted-accepted}
use Rattle.psl_verdict.specs.Verdict.{psl_verdict_refusal, PslJudges}
use Rattle.trace.proofs.JudgesLaw.{not-long}
use Rattle.ltl_verdict.specs.Verdict.{LtlJudges}
use Rattle.ltl_verdict.proofs.JudgesLaw.{ltl_fine, ltl-empty}
use Rattle.formula_lines.specs.Spelling.{formula_line}
use Rattle.trace_lines.specs.Spelling.{TraceLists, line_of_trace}
use Rattle.text.specs.Reading.{Takes, Refuses}
use Rattle.formula_lines.specs.FormulaAnswer.{table_nodes, formula_limits, formula_refusal, FormulaAnswer}
use Rattle.trace_lines.specs.TraceAnswer.{trace_limits, TraceAnswer}
use Rattle.text.proofs.ReadingLaw.{takes_by, refuses_by, place_within, front-take, front_length}
use Rattle.formula_lines.proofs.LimitsLaw.{limits-few, limits-accepted, limits-unplaced, formula-room}
use Rattle.trace_lines.proofs.LimitsLaw as trace
use Rattle.trace_lines.proofs.LimitsLaw.{limits-short, trace-room}
use Rattle.psl.proofs.ClosingLaw.{closing_formula}
use Rattle.answers.specs.Answer.{VerdictOn, LaterAnswer}
use Rattle.answers.specs.Inner.{PlacedWithin, TablesOf, Accepted}
use Rattle.answers.specs.declared.Verdicts.{Verdicts}

-- ── The tables of a formula within the limits ──

pub tables_accepted : {f : Written} {psl ltl : List ℕ} → TablesOf f psl ltl → Accepted psl ltl
tables_accepted {f} {psl} {ltl} a =
    let t = numbers_of (table_nodes f) in
    let e = limits-accepted f a.limits in
    let g : emitted (formula_of t) ≡ emitted (spelled_out f) = ap emitted (closing_formula (spelled_out f)) in
    (ap psl_refusal a.read ∙ e, ap ltl_refusal (a.translated ∙ sym g) ∙ emitted-accepted t e (omega (arith, size-most t e)))

-- ── Line 1 ──

pub first_place : {line : List ℕ} {x : Refusal} → Refuses formula_line formula_limits line x → (p : ℕ) → place x ≡ Some p → p ≤ most_bytes
first_place = place_within limits-unplaced

-- A list that took a translation had room for it.
pub translation-few : {t l m : List ℕ} {s : ℕ} → Delivers t l (Ok s) m → (s ≤ ltl_rules.most) × (3 * s ≤ length m)
translation-few {m = m} {s} d = let out = d.succeeds s refl in (omega (arith, out.bounded), omega (arith, out.sized, length-take (3 * s) m))

module _ (line l m : List ℕ) where
  module _ (n : ℕ) (a : FormulaAnswer line l (Ok n) m) where
    abbrev f : Written
    f = a.0

    -- A list that took a table had room for it.
    pub first-few : (n ≤ psl_rules.most) × (3 * n ≤ length m)
    unfolding formula_refusal
    first-few =
        let nodes = table_nodes f in
        let (small, room) = or-none (formula_limits f) (unless (leb (3 * length nodes) (length l)) ListRoom none) a.1.within in
        let few = limits-few f small in
        let fits = leb-true (3 * length nodes) (length l) (unless-none (leb (3 * length nodes) (length l)) ListRoom none room).0 in
        let counted = length-numbers nodes in
        (omega (arith, a.2), omega (arith, a.2, ap length a.3 ∙ front_length (numbers_of nodes) l (omega arith)))

    first-table : take (3 * n) m ≡ numbers_of (table_nodes f)
    first-table = ap (take (3 * n)) a.3 ∙ front-take (numbers_of (table_nodes f)) l (3 * n) (omega (arith, a.2, length-numbers (table_nodes f)))

    stands : formula_of (take (3 * n) m) ≡ spelled_out f
    stands = ap formula_of first-table ∙ closing_formula (spelled_out f)

  module _ (room : length l ≡ 3 * psl_rules.most) where
    pub first-refused : {x : Refusal} → FormulaAnswer line l (Err x) m → Refuses formula_line formula_limits line x
    first-refused (a, _) = refuses_by (λ g. formula-room g (length l) (omega arith)) a

    module _ (n : ℕ) (a : FormulaAnswer line l (Ok n) m) where
      first_taken : Takes formula_line formula_limits line (f n a)
      first_taken = takes_by (λ g. formula-room g (length l) (omega arith)) a.1

      accepted : psl_refusal (take (3 * n) m) ≡ none
      accepted = ap psl_refusal (first-table n a) ∙ limits-accepted (f n a) first_taken.within

      -- There is room for every translation.
      fits : (k : List ℕ) → length k ≡ 3 * ltl_rules.most → translate_refusal (take (3 * n) m) (length k) ≡ none
      unfolding translate_refusal
      fits k h =
          let most = size-most (take (3 * n) m) accepted in
          rw (accepted, le-leb (3 * emitted_size (formula_of (take (3 * n) m))) (length k) (omega arith))

      pub first-translated : {k k' : List ℕ} {x : Refusal} → length k ≡ 3 * ltl_rules.most → Delivers (take (3 * n) m) k (Err x) k' → ⊥
      first-translated {k} {x = x} h d =
          let e : ◌≡◌ {A = Result ℕ Refusal} (Err x) (Ok (emitted_size (formula_of (take (3 * n) m)))) =
          d.answers ∙ ap (λ (o : Option Refusal). answer o (emitted_size (formula_of (take (3 * n) m)))) (fits k h) in
          let z : ◌≡◌ {A = ℕ} 0 1 = cc in omega arith

      pub first_tables : {k k' : List ℕ} {s : ℕ} → Delivers (take (3 * n) m) k (Ok s) k'
          → (f : Written) × Takes formula_line formula_limits line f × TablesOf f (take (3 * n) m) (take (3 * s) k')
      first_tables {s = s} d =
          let out = d.succeeds s refl in
          (f n a, first_taken, record { limits = first_taken.within; read = first-table n a; translated = out.is ∙ ap emitted (stands n a) })

-- ── Result Verdicts Refusal lines ──

-- A verdict that nothing refuses.
tells : {o : Option Refusal} (A : Type 0) (v : Result Bool Refusal) → o ≡ none → Judges o A v → VerdictOn A v
tells A (Ok true) e (_, h) = h
tells A (Ok false) e (_, h) = h
tells A (Err x) e h = absurd (some-ne-none _ (sym h ∙ e))

refused_by : {o : Option Refusal} (A : Type 0) (v : Result Bool Refusal) (x : Refusal) → o ≡ some x → Judges o A v → v ≡ Err x
refused_by A (Ok true) x e (h, _) = absurd (some-ne-none _ (sym e ∙ h))
refused_by A (Ok false) x e (h, _) = absurd (some-ne-none _ (sym e ∙ h))
refused_by A (Err y) x e h = let q = sym h ∙ e in cc

-- Lists with room for a trace that is not too long.
abbrev pub room : List ℕ
room = replicate most_letters 0

enough : most_letters ≤ length room
enough = omega (arith, length-replicate {A = ℕ} most_letters 0)

module _ (line l m : List ℕ) where
  pub later_refused : {x : Refusal} → TraceAnswer line room room (Err x) l m → Refuses line_of_trace trace_limits line x
  later_refused (a, _, _) = refuses_by (λ t. trace-room t (length room) (length room) enough enough) a

  pub later_place : {x : Refusal} → TraceAnswer line room room (Err x) l m → PlacedWithin {A = Verdicts} (Err x)
  later_place a = place_within trace.limits-unplaced (later_refused a)

  module _ (a b : ℕ) (r : TraceAnswer line room room (Ok (record { lead = a; cycle = b })) l m) where
    abbrev t : TraceLists
    t = r.0

    taken : Takes line_of_trace trace_limits line t
    taken = takes_by (λ u. trace-room u (length room) (length room) enough enough) r.1

    short : size t.lead t.loop ≤ most_letters
    short = limits-short t taken.within

    pub letters-few : (a ≤ length l) × (b ≤ length m)
    letters-few = (
      omega (arith, r.2, short, enough, ap length r.4 ∙ front_length t.lead room (omega (arith, short, enough))),
      omega (arith, r.3, short, enough, ap length r.5 ∙ front_length t.loop room (omega (arith, short, enough))),
    )

    pub later_judged : {psl ltl : List ℕ} {v w : Result Bool Refusal} → PslJudges psl (take a l) (take b m) v → LtlJudges ltl (take a l) (take b m) w
        → (f : Written) → TablesOf f psl ltl → LaterAnswer (spelled_out f) line (Ok (record { psl = v; ltl = w }))
    unfolding psl_verdict_refusal
    later_judged {psl} {ltl} {v} {w} p q f s =
        let lead : take a l ≡ t.lead = ap (take a) r.4 ∙ front-take t.lead room a r.2 in
        let loop : take b m ≡ t.loop = ap (take b) r.5 ∙ front-take t.loop room b r.3 in
        let (ok, ok') = tables_accepted s in
        let p' = subst (λ (x : List ℕ). PslJudges psl x t.loop v) lead (subst (λ (x : List ℕ). PslJudges psl (take a l) x v) loop p) in
        let q' = subst (λ (x : List ℕ). LtlJudges ltl x t.loop w) lead (subst (λ (x : List ℕ). LtlJudges ltl (take a l) x w) loop q) in (
          t,
          taken,
          record {
            psl = subst (λ (g : Formula). VerdictOn (HoldsOn g t.lead t.loop) v) (ap formula_of s.read ∙ closing_formula (spelled_out f))
                (tells (HoldsOn (formula_of psl) t.lead t.loop) v (not-long (psl_refusal psl) t.lead t.loop ok short) p');
            ltl = λ h. subst (λ (x : List ℕ). VerdictOn (LtlHoldsOn (tree_of x) t.lead t.loop) w) s.translated
                (tells (LtlHoldsOn (tree_of ltl) t.lead t.loop) w (ltl_fine ltl t.lead t.loop ok' short h) q');
            empty = λ h. refused_by (LtlHoldsOn (tree_of ltl) t.lead t.loop) w EmptyTrace (ltl-empty ltl t.lead t.loop ok' short (omega arith)) q';
          },
        )
