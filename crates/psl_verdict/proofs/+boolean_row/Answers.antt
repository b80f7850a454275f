-- Each arm tells its Boolean.
use Rattle.rows.proofs.RowLaw.{tells-true, tells-not, tells-and}
use Rattle.psl_verdict.proofs.+boolean_row.Goals as goal

pub returns-in-True-clause-tells : goal.returns-in-True-clause-tells
returns-in-True-clause-tells t c few = rw c.in-True.ensures (tells-true few)

pub returns-in-Bnot-clause-tells : goal.returns-in-Bnot-clause-tells
returns-in-Bnot-clause-tells t c few = rw c.in-Bnot.ensures.1 (tells-not few c.boolean_row.type_inv (c.boolean_row.ensures.tells few))

pub returns-in-Band-clause-tells : goal.returns-in-Band-clause-tells
returns-in-Band-clause-tells t c few =
    let A = c.boolean_row-in-Band.ensures in
    let B = rw A.same_trace at c.boolean_row-in-Band-2.ensures.tells in
    rw c.in-Band.ensures.2 (tells-and few (A.tells few) (B few))
