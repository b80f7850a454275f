-- The line read, then its table translated: with room for the largest neither lacks any.
use mathlib.Core.Path.{◌≡◌, ap, subst, ◌∙◌}
use mathlib.Core.List.{List}
use Prim.Native.Nat.{ℕ, ◌*◌, ◌≤◌}
use native.Mathlib.Omega.{arith}
use lib.ListN.{length, take}
use Rattle.std.proofs.Common.{rules, Err}
use Rattle.std.specs.List.{refill}
use Rattle.logic.specs.Written.{Written}
use Rattle.psl.specs.Check.{psl_rules}
use Rattle.translate.specs.Answer.{Delivers}
use Rattle.text.specs.Reading.{Takes}
use Rattle.formula_lines.specs.Spelling.{formula_line}
use Rattle.formula_lines.specs.FormulaAnswer.{formula_limits}
use Rattle.answers.specs.Inner.{TablesOf}
use Rattle.answers.proofs.AnswerLaw.{first-few, first-refused, first-translated, translation-few, tables_accepted}
use Rattle.line_one.specs.Inner.{FirstAnswer}
use Rattle.line_one.proofs.FirstLaw.{cut, tables}
use Rattle.line_one.proofs.Tables.of_line.Goals as goal
use Rattle.line_one.proofs.Tables.of_line.Goals.{In_ok-p, In_ok-q}

few : (e : In_ok-p) → (e.in_ok-p.p ≤ psl_rules.most) × (3 * e.in_ok-p.p ≤ length e.read_formula.new.out)
few e = first-few e.args.line.now e.deref_mut.result.now e.read_formula.new.out e.in_ok-p.p e.in_ok-p.ensures

-- What is translated is the table that was read, and what is stored are this table and its translation.
psl-cut : (e : In_ok-q) → e.truncate.new.self.items ≡ take (3 * e.in_ok-p.p) e.read_formula.new.out
psl-cut e = cut e.from-psl.result.items e.read_formula.new.out (3 * e.in_ok-p.p) (search rules) e.truncate.ensures.items

stored : (e : In_ok-q) (ltl : List ℕ) → ltl ≡ take (3 * e.in_ok-q.q) (refill (length e.from-ltl.result.items) e.from-ltl.result.items e.translate.new.out)
    → (f : Written) × Takes formula_line formula_limits e.args.line.now f × TablesOf f e.truncate.new.self.items ltl
stored e ltl q =
    tables e.args.line.now e.deref_mut.result.now e.read_formula.new.out e.deref_mut-2.result.now e.translate.new.out e.in_ok-p.p e.in_ok-q.q
    (omega (arith, e.from-psl.ensures.1, ap length e.deref_mut.ensures.value)) e.in_ok-p.ensures e.in_ok-q.ensures (e.deref.ensures.0 ∙ psl-cut e) (psl-cut e)
    (cut e.from-ltl.result.items e.translate.new.out (3 * e.in_ok-q.q) (search rules) q)

pub returns-in_err-p : goal.returns-in_err-p
returns-in_err-p c = let x = c.args in
    let room : length c.deref_mut.result.now ≡ 3 * psl_rules.most = omega (arith, c.from-psl.ensures.1, ap length c.deref_mut.ensures.value) in
    let h : FirstAnswer x.line.now (Err c.in_err-p.field-0.0) = first-refused x.line.now c.deref_mut.result.now c.read_formula.new.out room c.in_err-p.ensures in search rules

pub overflow_mul-p : goal.overflow_mul-p
overflow_mul-p c = omega (arith, (few (goal.at.overflow_mul-p c).In_ok-p).0)

pub overflow_mul-q : goal.overflow_mul-q
overflow_mul-q c = omega (arith, (translation-few c.in_ok-q.ensures).0)

pub returns-in_err-q : goal.returns-in_err-q
returns-in_err-q c = let x = c.args in
    let room : length c.deref_mut.result.now ≡ 3 * psl_rules.most = omega (arith, c.from-psl.ensures.1, ap length c.deref_mut.ensures.value) in
    let e = c.deref.ensures.0 ∙ cut c.from-psl.result.items c.read_formula.new.out (3 * c.in_ok-p.p) (search rules) c.truncate.ensures.items in
    let d = subst (λ (t : List ℕ). Delivers t c.deref_mut-2.result.now (Err c.in_err-q.field-0.0) c.translate.new.out) e c.in_err-q.ensures in
    let h : FirstAnswer x.line.now (Err c.in_err-q.field-0.0) =
    absurd (first-translated x.line.now c.deref_mut.result.now c.read_formula.new.out room c.in_ok-p.p c.in_ok-p.ensures (omega (arith, c.from-ltl.ensures.1, ap length c.deref_mut-2.ensures.value)) d) in search rules

pub invariant_of-result : goal.invariant_of-result
invariant_of-result c =
    let (_, _, b) = stored (goal.at.invariant_of-result c).In_ok-q c.truncate-2.new.self.items c.truncate-2.ensures.items in
    let (p, q) = tables_accepted b in
    record { psl_accepted = p; ltl_accepted = q }

pub returns : goal.returns
returns c = stored (goal.at.returns c).In_ok-q c.truncate-2.new.self.items c.truncate-2.ensures.items
