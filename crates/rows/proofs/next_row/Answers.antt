-- Both ways each bit is the one below it; on a loop the lowest is the one at the loop's start.
use Rattle.std.proofs.Common.{◌≡◌, ◌-◌, ◌%◌, length, arith}
use Rattle.rows.proofs.NextLaw.{tells-next, shifted_ended, shifted_looped}
use Rattle.trace.specs.Limits.{most_letters}
use Rattle.rows.proofs.next_row.Goals as goal

pub returns-in-None : goal.returns-in-None
returns-in-None c t x p A few = let n = length t.cycle.now in
    tells-next few (shifted_ended n c.args.a (omega (arith, p, c.in-None.ensures))) (A few)

pub returns-in-Some : goal.returns-in-Some
returns-in-Some c t x p A few = let n = length t.cycle.now in
    let z : c.in-Some.start % most_letters ≡ n - 1 = omega (arith, p, few.most, c.in-Some.ensures) in
    tells-next few (rw z (shifted_looped n c.args.a (λ e. omega (arith, p, c.in-Some.ensures)))) (A few)
