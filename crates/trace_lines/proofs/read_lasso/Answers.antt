-- The lead-in, ` (`, the loop, the closing bracket, and the end.
use Rattle.std.proofs.lemmas.Result.{err_from_is_err_and}
use Rattle.trace_lines.proofs.TraceLaw.{lead-no, no_loop, loop-no, lasso_open, lasso_tail}
use Rattle.trace_lines.proofs.read_lasso.Goals as goal

pub returns-in_err-leads : goal.returns-in_err-leads
returns-in_err-leads c =
    let p = err_from_is_err_and c.from_residual.result c.from_residual.ensures.1 in
    rw (p.1, p.2) (lead-no c.in_err-leads.ensures.read)

pub returns-in_err-expect : goal.returns-in_err-expect
returns-in_err-expect c =
    let a = c.in_ok-leads.ensures.read in
    let z = rw c.in_ok-leads.ensures.line at c.in_err-expect.ensures.read in
    let p = err_from_is_err_and c.from_residual-in_err-expect.result c.from_residual-in_err-expect.ensures.1 in
    rw (p.1, p.2) (no_loop a.0 a.2.stands (z.1 a.2.stands.within))

pub returns-in_err-loops : goal.returns-in_err-loops
returns-in_err-loops c =
    let a = c.in_ok-leads.ensures.read in
    let o = rw c.in_ok-leads.ensures.line at c.in_ok-expect.ensures.read in
    let b = rw (c.in_ok-expect.ensures.line, c.in_ok-leads.ensures.line) at c.in_err-loops.ensures.read in
    let p = err_from_is_err_and c.from_residual-in_err-loops.result c.from_residual-in_err-loops.ensures.1 in
    rw (p.1, p.2) (loop-no a.0 a.2.stands (o.stands a.2.stands.within) b)

pub returns-in_err-expect-2 : goal.returns-in_err-expect-2
returns-in_err-expect-2 c =
    let a = c.in_ok-leads.ensures.read in
    let o = rw c.in_ok-leads.ensures.line at c.in_ok-expect.ensures.read in
    let b = rw (c.in_ok-expect.ensures.line, c.in_ok-leads.ensures.line) at c.in_ok-loops.ensures.read in
    let z = rw (c.in_ok-loops.ensures.line, c.in_ok-expect.ensures.line, c.in_ok-leads.ensures.line) at c.in_err-expect-2.ensures.read in
    let p = err_from_is_err_and c.from_residual-in_err-expect-2.result c.from_residual-in_err-expect-2.ensures.1 in
    rw (p.1, p.2) (lasso_open a.0 a.2.stands (o.stands a.2.stands.within) b.0 b.1 b.2.stands (z.1 b.2.stands.within))

pub returns-in_err-end : goal.returns-in_err-end
returns-in_err-end c =
    let a = c.in_ok-leads.ensures.read in
    let o = rw c.in_ok-leads.ensures.line at c.in_ok-expect.ensures.read in
    let b = rw (c.in_ok-expect.ensures.line, c.in_ok-leads.ensures.line) at c.in_ok-loops.ensures.read in
    let e = rw (c.in_ok-loops.ensures.line, c.in_ok-expect.ensures.line, c.in_ok-leads.ensures.line) at c.in_ok-expect-2.ensures.read in
    let z = rw (c.in_ok-expect-2.ensures.line, c.in_ok-loops.ensures.line, c.in_ok-expect.ensures.line, c.in_ok-leads.ensures.line) at c.in_err-end.ensures in
    let p = err_from_is_err_and c.from_residual-in_err-end.result c.from_residual-in_err-end.ensures.1 in
    rw (p.1, p.2, z.1) (lasso_tail a.0 a.2.stands (o.stands a.2.stands.within) b.0 b.1 b.2.stands (e.stands b.2.stands.within) z.0)
