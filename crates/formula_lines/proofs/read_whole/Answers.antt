-- `(psl `, a formula, the closing bracket, and the end.
use native.Mathlib.Omega.{arith}
use Rattle.std.proofs.lemmas.Result.{err_from_is_err_and}
use Rattle.formula_lines.proofs.LineLaw.{not-psl, no-form, not-closed, tail_left, line_read}
use Rattle.formula_lines.proofs.read_whole.Goals as goal

pub returns-in_err-expect : goal.returns-in_err-expect
returns-in_err-expect c =
    let p = err_from_is_err_and c.from_residual.result c.from_residual.ensures.1 in
    rw (p.1, p.2) (not-psl (c.in_err-expect.ensures.read.1 (omega arith)))

pub returns-in_err-read : goal.returns-in_err-read
returns-in_err-read c =
    let o = c.in_ok-expect.ensures.read in
    let a = rw c.in_ok-expect.ensures.line at c.in_err-read.ensures.read in
    let p = err_from_is_err_and c.from_residual-in_err-read.result c.from_residual-in_err-read.ensures.1 in
    rw (p.1, p.2) (no-form (o.stands (omega arith)) a)

pub returns-in_err-expect-2 : goal.returns-in_err-expect-2
returns-in_err-expect-2 c =
    let o = c.in_ok-expect.ensures.read in
    let a = rw c.in_ok-expect.ensures.line at c.in_ok-read.ensures.read in
    let z = rw (c.in_ok-read.ensures.line, c.in_ok-expect.ensures.line) at c.in_err-expect-2.ensures.read in
    let p = err_from_is_err_and c.from_residual-in_err-expect-2.result c.from_residual-in_err-expect-2.ensures.1 in
    rw (p.1, p.2) (not-closed (o.stands (omega arith)) a.1 a.2 (z.1 a.2.stands.within))

pub returns-in_err-end : goal.returns-in_err-end
returns-in_err-end c =
    let o = c.in_ok-expect.ensures.read in
    let a = rw c.in_ok-expect.ensures.line at c.in_ok-read.ensures.read in
    let e = rw (c.in_ok-read.ensures.line, c.in_ok-expect.ensures.line) at c.in_ok-expect-2.ensures.read in
    let z = rw (c.in_ok-expect-2.ensures.line, c.in_ok-read.ensures.line, c.in_ok-expect.ensures.line) at c.in_err-end.ensures in
    let p = err_from_is_err_and c.from_residual-in_err-end.result c.from_residual-in_err-end.ensures.1 in
    rw (p.1, p.2, z.1) (tail_left (o.stands (omega arith)) a.1 a.2 (e.stands a.2.stands.within) z.0)

pub returns : goal.returns
returns c =
    let o = c.in_ok-expect.ensures.read in
    let a = rw c.in_ok-expect.ensures.line at c.in_ok-read.ensures.read in
    let e = rw (c.in_ok-read.ensures.line, c.in_ok-expect.ensures.line) at c.in_ok-expect-2.ensures.read in
    let z = rw (c.in_ok-expect-2.ensures.line, c.in_ok-read.ensures.line, c.in_ok-expect.ensures.line) at c.in_ok-end.ensures in
    line_read (o.stands (omega arith)) a.1 a.2 (e.stands a.2.stands.within) z
