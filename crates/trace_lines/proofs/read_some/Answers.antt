-- A first letter, and further ones.
use Rattle.std.proofs.lemmas.Result.{err_from_is_err_and}
use Rattle.trace_lines.proofs.LettersLaw.{no-first, first_then}
use Rattle.trace_lines.proofs.read_some.Goals as goal

pub returns-in_err-first-clause-read : goal.returns-in_err-first-clause-read
returns-in_err-first-clause-read c =
    let p = err_from_is_err_and c.from_residual.result c.from_residual.ensures.1 in
    rw (p.1, p.2) (no-first c.in_err-first.ensures.read)

pub returns-clause-read : goal.returns-clause-read
returns-clause-read c =
    let a = c.in_ok-first.ensures.read in
    let b = rw c.in_ok-first.ensures.line at c.read_further.ensures.read in
    first_then a.1 _ _ _ a.2 _ _ c.read_further.result b
