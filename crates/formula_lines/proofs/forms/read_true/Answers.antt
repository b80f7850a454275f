-- `true` is due where a Boolean is; a form that opens with a bracket does not stand here.
use mathlib.Core.Path.{ap}
use Rattle.std.proofs.lemmas.Result.{err_from_is_err_and}
use Rattle.formula_lines.specs.Inner.Form.{truth}
use Rattle.formula_lines.specs.Inner.Reader.{sort_number}
use Rattle.formula_lines.proofs.KeywordLaw.{sort_formula}
use Rattle.formula_lines.proofs.ReaderLaw.{true-not_due, true-part, true-stands}
use Rattle.formula_lines.proofs.forms.read_true.Goals as goal

pub returns-in_default-clause-read : goal.returns-in_default-clause-read
returns-in_default-clause-read c =
    true-not_due c.requires.no_bracket (sort_number c.args.sort) (sort_formula c.args.sort c.in_default.not-Boolean)

pub returns-in_err-expect-clause-read : goal.returns-in_err-expect-clause-read
returns-in_err-expect-clause-read c =
    let p = err_from_is_err_and c.from_residual.result c.from_residual.ensures.1 in
    rw (p.1, p.2, c.in-Boolean.is) (true-part c.requires.no_bracket (c.in_err-expect.ensures.read.1 c.requires.place.within))

pub returns-clause-read : goal.returns-clause-read
returns-clause-read c =
    let w = c.in_ok-expect.ensures.read in
    (truth, ap sort_number c.in-Boolean.is, true-stands (w.stands c.requires.place.within) c.put_leaf.ensures)
