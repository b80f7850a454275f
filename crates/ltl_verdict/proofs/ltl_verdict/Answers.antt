-- The table's refusal comes first.
use Rattle.std.proofs.Common.{rules, ◌≡◌, Err}
use Rattle.ltl_verdict.proofs.JudgesLaw.{ltl_check}
use Rattle.ltl_verdict.proofs.ltl_verdict.Goals as goal

pub returns-in_err-new : goal.returns-in_err-new
returns-in_err-new c = let a = c.args in
    let h : c.from_residual.result ≡ Err c.in_err-new.field-0.0 = search rules in
    rw h (ltl_check a.t.now a.trace.lead.now a.trace.cycle.now c.in_err-new.ensures)
