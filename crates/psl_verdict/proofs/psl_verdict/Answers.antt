-- The table's refusal comes first.
use Rattle.std.proofs.Common.{rules, ◌≡◌, Err}
use Rattle.psl.specs.Check.{psl_refusal}
use Rattle.trace.proofs.JudgesLaw.{refused-first}
use Rattle.psl_verdict.specs.Verdict.{psl_verdict_refusal}
use Rattle.psl_verdict.proofs.psl_verdict.Goals as goal

pub returns-in_err-new : goal.returns-in_err-new
unfolding psl_verdict_refusal
returns-in_err-new c =
    let h : c.from_residual.result ≡ Err c.in_err-new.field-0.0 = search rules in
    rw h (refused-first (psl_refusal c.args.t.now) _ c.in_err-new.ensures)
