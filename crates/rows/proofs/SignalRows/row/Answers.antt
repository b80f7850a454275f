-- The row that is there, or the one that is made.
use Rattle.std.proofs.Common.{◌≡◌, ℕ, ◌%◌, ◌++◌, arith, subst}
use Rattle.logic.specs.Letter.{signals}
use Rattle.rows.specs.Inner.Rows.{SignalIn}
use Rattle.rows.proofs.RowLaw.{tells-var}
use Rattle.rows.proofs.SignalRows.row.Goals as goal

pub returns-in-Some-clause-tells : goal.returns-in-Some-clause-tells
returns-in-Some-clause-tells c h few = let s = c.args.self.now in
    let z : c.from-at.result ≡ c.args.k = omega (arith, c.from-at.ensures) in
    tells-var few c.args.k c.in-Some.row (s.told.row c.args.k c.in-Some.row h (rw z at c.in-Some.is))

pub returns-in-None-clause-tells : goal.returns-in-None-clause-tells
returns-in-None-clause-tells c h few = let t = c.args.self.now.trace in
    let z : c.args.k % signals ≡ c.args.k = omega arith in
    tells-var few c.args.k c.signal_row-row.result (subst (λ (k : ℕ). SignalIn (t.lead.now ++ t.cycle.now) k c.signal_row-row.result) z c.signal_row-row.ensures)
