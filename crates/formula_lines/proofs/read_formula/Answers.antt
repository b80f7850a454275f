-- Each refusal from the reading aside; then what was read is copied into the lent list.
use native.Mathlib.Omega.{arith}
use Rattle.std.proofs.lemmas.Result.{err_from_is_err_and}
use Rattle.formula_lines.proofs.LineLaw.{no-formula, many_nodes, large_signal_lem, no_room, table-read}
use Rattle.formula_lines.proofs.read_formula.Goals as goal

pub returns-in_err-read : goal.returns-in_err-read
returns-in_err-read c =
    let p = err_from_is_err_and c.from_residual.result c.from_residual.ensures.1 in
    rw (p.1, p.2) (no-formula c.args.line.now c.args.out.now (omega arith) c.in_err-read.ensures)

pub returns-then-read-gt-MOST_NODES : goal.returns-then-read-gt-MOST_NODES
returns-then-read-gt-MOST_NODES c =
    let a = c.in_ok-read.ensures in
    many_nodes c.args.out.now (omega arith) a.1 c.if-read-gt-MOST_NODES.true

pub returns-then-read : goal.returns-then-read
returns-then-read c =
    let a = c.in_ok-read.ensures in
    large_signal_lem c.args.out.now (omega arith) a.1 (omega arith) c.if-read.true

pub returns-then-out-read : goal.returns-then-out-read
returns-then-out-read c =
    let a = c.in_ok-read.ensures in
    no_room c.args.out.now (omega arith) a.1 (omega arith) c.if-read.false (omega arith)

pub returns : goal.returns
returns c =
    let a = c.in_ok-read.ensures in
    table-read c.args.out.now (omega arith) a.1 (omega arith) c.if-read.false (omega arith) (omega arith) _ c.copy_front.ensures
