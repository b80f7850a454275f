-- The first word tells which of the two shapes it is.
use native.Mathlib.Omega.{arith}
use Rattle.trace_lines.proofs.TraceLaw.{finite_line, lasso_line, neither}
use Rattle.trace_lines.proofs.read_lists.Goals as goal

pub returns-in-Ok : goal.returns-in-Ok
returns-in-Ok c =
    let a = c.in-Ok.ensures.read in
    let b = rw c.in-Ok.ensures.line at (c.read_finite.ensures c.args.cycle.now) in
    finite_line c.args.line.now c.args.lead.now c.args.cycle.now c.read_finite.new.lead c.args.cycle.now (a.stands (omega arith)) c.read_finite.result b

pub returns-in-Ok-expect : goal.returns-in-Ok-expect
returns-in-Ok-expect c =
    let z = c.in-Err.ensures in
    let a = rw (z.read.0, z.line) at c.in-Ok-expect.ensures.read in
    let b = rw (c.in-Ok-expect.ensures.line, z.line) at c.read_lasso.ensures in
    lasso_line c.args.line.now c.args.lead.now c.args.cycle.now c.read_lasso.new.lead c.read_lasso.new.cycle (a.stands (omega arith)) c.read_lasso.result b

pub returns : goal.returns
returns c =
    let z = c.in-Err.ensures in
    let a = rw (z.read.0, z.line) at c.in-Err-expect.ensures.read in
    neither (z.read.1 (omega arith)) (a.1 (omega arith)) c.further.ensures
