-- `translate::translate` meets its contract: the check's refusal, 10, or the emitted table in front.
use native.Mathlib.Omega.{arith}
use Rattle.std.proofs.Common.{rules, ◌≡◌, Err}
use Rattle.translate.proofs.DeliversLaw.{size-most, refused_check, refused-room, delivered}
use Rattle.translate.proofs.translate.Goals as goal

pub returns-in_err-table : goal.returns-in_err-table
returns-in_err-table c =
    let e : c.from_residual.result ≡ Err c.in_err-table.field-0.0 = search rules in
    rw e (refused_check c.args.t.now c.args.out.now c.in_err-table.ensures)

pub overflow_mul-s : goal.overflow_mul-s
overflow_mul-s c = let a = c.in_ok-table.table in omega (arith, c.emitted_size-s.ensures, size-most a.numbers.now a.accepted)

pub returns-then-out-s : goal.returns-then-out-s
returns-then-out-s c = let a = c.in_ok-table.table in
    rw (← c.in_ok-table.ensures) (refused-room a.numbers.now c.args.out.now a.accepted c.emitted_size-s.ensures c.if-out-s.true)

pub returns : goal.returns
returns c = let a = c.in_ok-table.table in
    rw (← c.in_ok-table.ensures) (delivered a.numbers.now c.args.out.now a.accepted c.emitted_size-s.ensures c.if-out-s.false c.emit.ensures)
