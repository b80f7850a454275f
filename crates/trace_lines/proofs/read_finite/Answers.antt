-- Letters, and the end.
use Rattle.std.proofs.lemmas.Result.{err_from_is_err_and}
use Rattle.trace_lines.proofs.TraceLaw.{finite-no, finite_tail}
use Rattle.trace_lines.proofs.read_finite.Goals as goal

pub returns-in_err-count : goal.returns-in_err-count
returns-in_err-count c =
    let p = err_from_is_err_and c.from_residual.result c.from_residual.ensures.1 in
    λ m. rw (p.1, p.2) (finite-no c.in_err-count.ensures.read)

pub returns-in_err-end : goal.returns-in_err-end
returns-in_err-end c =
    let a = c.in_ok-count.ensures.read in
    let z = rw c.in_ok-count.ensures.line at c.in_err-end.ensures in
    let p = err_from_is_err_and c.from_residual-in_err-end.result c.from_residual-in_err-end.ensures.1 in
    λ m. rw (p.1, p.2, z.1) (finite_tail a.2 z.0)
