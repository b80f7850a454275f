-- The loop keeps what was read so far; whatever the reader finds from there on it finds from the start on.
use Rattle.std.proofs.Common.{rules, ◌∙◌}
use native.Mathlib.Omega.{arith}
use Rattle.std.proofs.lemmas.Result.{err_from_is_err_and}
use Rattle.trace_lines.proofs.LettersLaw.{one_more, no_letter, no_end, letters_end}
use Rattle.trace_lines.proofs.read_further.Goals as goal

pub returns-in_err-count-clause-read : goal.returns-in_err-count-clause-read
returns-in_err-count-clause-read c =
    let inv = c.loop-cursor.invariant in
    let o = rw inv.line at c.loop-cursor-test.ensures.read in
    let a = rw (c.loop-cursor-test.ensures.line, inv.line) at c.in_err-count.ensures.read in
    let p = err_from_is_err_and c.from_residual.result c.from_residual.ensures.1 in
    rw (p.1, p.2) (inv.read.stops (no_letter o a))

pub loop-cursor-preserved : goal.loop-cursor-preserved
loop-cursor-preserved c =
    let inv = c.loop-cursor.invariant in
    let o = rw inv.line at c.loop-cursor-test.ensures.read in
    let a = rw (c.loop-cursor-test.ensures.line, inv.line) at c.in_ok-count.ensures.read in
    record {
      line = c.in_ok-count.ensures.line ∙ c.loop-cursor-test.ensures.line ∙ inv.line;
      size = search rules;
      read = one_more inv.read o a.1 a.2;
    }

pub returns-in_err-expect-clause-read : goal.returns-in_err-expect-clause-read
returns-in_err-expect-clause-read c =
    let inv = c.loop-cursor.invariant in
    let z = rw inv.line at c.loop-cursor-test.ensures.read in
    let a = rw (c.loop-cursor-test.ensures.line, inv.line) at c.in_err-expect.ensures.read in
    let b = a.1 (omega (arith, z.0, inv.read.within)) in
    let p = err_from_is_err_and c.from_residual-in_err-expect.result c.from_residual-in_err-expect.ensures.1 in
    rw (p.1, p.2) (inv.read.stops (no_end (z.1 inv.read.within) (rw z.0 at b)))

pub returns-clause-read : goal.returns-clause-read
returns-clause-read c =
    let inv = c.loop-cursor.invariant in
    let z = rw inv.line at c.loop-cursor-test.ensures.read in
    let a = rw (c.loop-cursor-test.ensures.line, inv.line) at c.in_ok-expect.ensures.read in
    let b = a.stands (omega (arith, z.0, inv.read.within)) in
    letters_end c.loop-cursor.count inv.read (rw z.0 at b)
