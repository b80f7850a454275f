-- A number; above the limit it is only said to be large.
use Rattle.std.proofs.lemmas.Result.{err_from_is_err_and}
use Rattle.formula_lines.proofs.ReaderLaw.{signal-no, signal_read}
use Rattle.formula_lines.proofs.forms.read_signal.Goals as goal

pub returns-in_err-signal-clause-read : goal.returns-in_err-signal-clause-read
returns-in_err-signal-clause-read c =
    let p = err_from_is_err_and c.from_residual.result c.from_residual.ensures.1 in
    rw (p.1, p.2) (signal-no (c.in_err-signal.ensures.read.1 c.requires.within))

pub returns-clause-read : goal.returns-clause-read
returns-clause-read c =
    let a = c.in_ok-signal.ensures.read in
    signal_read a.2 c.in_ok-signal.signal c.is_none.result (rw (← c.unwrap_or-value.ensures) c.put_leaf.ensures) c.is_none.ensures a.1
