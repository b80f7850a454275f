-- Each refusal from the one reading; then what it read is copied.
use native.Mathlib.Omega.{arith}
use mathlib.Core.Path.{sym, ◌∙◌}
use Rattle.std.proofs.lemmas.Result.{err_from_is_err_and}
use Rattle.trace_lines.proofs.TraceLaw.{no-trace, large_refused, many_letters, no-room-lead, no-room-loop, letters-read}
use Rattle.trace_lines.proofs.read_trace.Goals as goal
use Rattle.trace_lines.proofs.read_trace.Goals.{then-lengths-gt-MOST_LETTERS-via-then-lengths-gt-MOST_LETTERS, then-lengths-gt-MOST_LETTERS-via-else-lengths-gt-MOST_LETTERS+then-lengths, then-lead-lengths-via-then-lead-lengths, then-lead-lengths-via-else-lead-lengths+then-cycle-lengths}

pub returns-in_err-read_lists : goal.returns-in_err-read_lists
returns-in_err-read_lists c =
    let p = err_from_is_err_and c.from_residual.result c.from_residual.ensures.1 in
    rw (p.1, p.2) (no-trace c.args.line.now c.args.lead.now c.args.cycle.now (omega arith) c.in_err-read_lists.ensures)

pub returns-in_err-lengths : goal.returns-in_err-lengths
returns-in_err-lengths c =
    let p = err_from_is_err_and c.from_residual-in_err-lengths.result c.from_residual-in_err-lengths.ensures.1 in
    rw (p.1, p.2) (large_refused c.args.lead.now c.args.cycle.now _ _ _ _ (omega arith) c.in_ok-read_lists.field-0 c.in_ok-read_lists.ensures (sym c.ok_or.ensures.value ∙ c.in_err-lengths.was))

pub returns-then-lengths-gt-MOST_LETTERS : goal.returns-then-lengths-gt-MOST_LETTERS
returns-then-lengths-gt-MOST_LETTERS c =
    let r = rw c.in_ok-lengths.ensures.ok_part at c.in_ok-read_lists.ensures in
    many_letters c.args.lead.now c.args.cycle.now r.0 r.1 (omega arith) r.2 c.in_ok-lengths.lengths (r.3.0, r.3.1, r.3.2)
    (elim c.then-lengths-gt-MOST_LETTERS.branch [
      | then-lengths-gt-MOST_LETTERS-via-then-lengths-gt-MOST_LETTERS w ↦ omega arith
      | then-lengths-gt-MOST_LETTERS-via-else-lengths-gt-MOST_LETTERS+then-lengths w ↦ omega arith
    ])

pub returns-then-lead-lengths : goal.returns-then-lead-lengths
returns-then-lead-lengths c =
    let r = rw c.in_ok-lengths.ensures.ok_part at c.in_ok-read_lists.ensures in
    let l = c.args.lead.now in
    let m = c.args.cycle.now in
    let k = c.in_ok-lengths.lengths in
    elim c.then-lead-lengths.branch [
      | then-lead-lengths-via-then-lead-lengths w ↦ no-room-lead l m r.0 r.1 (omega arith) r.2 k (r.3.0, r.3.1, r.3.2) (omega arith) w.if-lead-lengths.true
      | then-lead-lengths-via-else-lead-lengths+then-cycle-lengths w ↦ no-room-loop l m r.0 r.1 (omega arith) r.2 k (r.3.0, r.3.1, r.3.2) (omega arith) w.if-cycle-lengths.true
    ]

pub returns : goal.returns
returns c =
    let r = rw c.in_ok-lengths.ensures.ok_part at c.in_ok-read_lists.ensures in
    letters-read c.args.lead.now c.args.cycle.now r.0 r.1 (omega arith) r.2 c.in_ok-lengths.lengths (r.3.0, r.3.1, r.3.2) (omega arith) (omega arith) (omega arith)
    _ _ (omega arith) (omega arith) r.3.3 r.3.4 c.copy_front.ensures c.copy_front-2.ensures
