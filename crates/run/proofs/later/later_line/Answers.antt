-- The trace read, then both verdicts on it.
use mathlib.Core.Path.{◌≡◌, ap, subst}
use mathlib.Core.List.{List}
use Prim.Native.Nat.{ℕ}
use lib.ListN.{take}
use Rattle.std.proofs.Common.{rules, Result, Err, Bor}
use Rattle.trace.specs.declared.refusal.Refusal.{Refusal}
use Rattle.logic.specs.Written.{spelled_out}
use Rattle.trace_lines.specs.declared.Lengths.{Lengths}
use Rattle.trace_lines.specs.TraceAnswer.{TraceAnswer}
use Rattle.answers.specs.Answer.{LaterAnswer}
use Rattle.answers.proofs.AnswerLaw.{room, later_refused, later_place, later_judged}
use Rattle.answers.specs.Inner.{PlacedWithin}
use Rattle.answers.specs.declared.Verdicts.{Verdicts}
use Rattle.run.specs.Later.{BothJudged}
use Rattle.run.proofs.later.later_line.Goals as goal

pub returns-in_err-read-clause-within : goal.returns-in_err-read-clause-within
returns-in_err-read-clause-within c =
    let a = subst (λ (x : Result Lengths Refusal). TraceAnswer c.args.line.now room room x c.read_trace.new.lead c.read_trace.new.cycle) c.in_err-read.was c.read_trace.ensures in
    let h : PlacedWithin {A = Verdicts} (Err c.in_err-read.field-0.0) = later_place c.args.line.now c.read_trace.new.lead c.read_trace.new.cycle a in search rules

pub returns-in_err-read-clause-answers : goal.returns-in_err-read-clause-answers
returns-in_err-read-clause-answers c = λ f t. let line = c.args.line.now in
    let a = subst (λ (x : Result Lengths Refusal). TraceAnswer line room room x c.read_trace.new.lead c.read_trace.new.cycle) c.in_err-read.was c.read_trace.ensures in
    let h : LaterAnswer (spelled_out f) line (Err c.in_err-read.field-0.0) = later_refused line c.read_trace.new.lead c.read_trace.new.cycle a in search rules

pub returns-clause-answers : goal.returns-clause-answers
returns-clause-answers c = let x = c.args in let line = x.line.now in let n = c.in_ok-read.read in
    let a = subst (λ (y : Result Lengths Refusal). TraceAnswer line room room y c.read_trace.new.lead c.read_trace.new.cycle) c.in_ok-read.was c.read_trace.ensures in
    let l : c.new-trace.result.lead.now ≡ take n.lead c.read_trace.new.lead = ap (λ (b : Bor (List ℕ)). b.now) c.new-trace.ensures.0 in
    let m : c.new-trace.result.cycle.now ≡ take n.cycle c.read_trace.new.cycle = ap (λ (b : Bor (List ℕ)). b.now) c.new-trace.ensures.1 in
    let j = subst (λ (y : List ℕ). BothJudged x.tables.now.psl.items x.tables.now.ltl.items y (take n.cycle c.read_trace.new.cycle) c.judge_both.result) l
    (subst (λ (z : List ℕ). BothJudged x.tables.now.psl.items x.tables.now.ltl.items c.new-trace.result.lead.now z c.judge_both.result) m c.judge_both.ensures) in
    let (p, q) = j in later_judged line c.read_trace.new.lead c.read_trace.new.cycle n.lead n.cycle a p q
