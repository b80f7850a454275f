-- A not exchanges accept and reject, and an and joins two rows.
use Rattle.rows.proofs.RowLaw.{tells-not, tells-and}
use Rattle.psl_verdict.proofs.+formula_row.Goals as goal

pub returns-in-Not-clause-tells : goal.returns-in-Not-clause-tells
returns-in-Not-clause-tells t c x y m few =
    rw c.in-Not.ensures.1 (tells-not few c.formula_row.type_inv (c.formula_row.ensures.tells y x (record { accept = m.reject; reject = m.accept }) few))

pub returns-in-And-clause-tells : goal.returns-in-And-clause-tells
returns-in-And-clause-tells t c x y m few =
    let A = c.formula_row-in-And.ensures in
    let B = rw A.same_trace at c.formula_row-in-And-2.ensures.tells in
    rw c.in-And.ensures.2 (tells-and few (A.tells x y m few) (B x y m few))
