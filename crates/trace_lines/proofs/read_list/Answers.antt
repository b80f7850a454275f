-- An empty list, or some letters.
use Rattle.trace_lines.proofs.LettersLaw.{some_list}
use Rattle.trace_lines.proofs.read_list.Goals as goal

pub returns-clause-read : goal.returns-clause-read
returns-clause-read c =
    let z = c.if-accept.ensures.read in
    let a = rw (z.0, c.if-accept.ensures.line) at c.read_some.ensures.read in
    some_list _ _ _ _ _ (z.1 c.requires.within) c.read_some.result a
