-- Once on a finite trace, twice on a loop.
use Rattle.std.proofs.Common.{◌≡◌, ℕ, ◌-◌, ◌/◌, ◌%◌, ◌^◌, length, subst, arith}
use Rattle.logic.specs.Letter.{bit}
use Rattle.rows.specs.Inner.Rows.{Swept}
use Rattle.rows.proofs.UntilLaw.{tells-until_once, tells-until_twice}
use Rattle.trace.specs.Limits.{most_letters}
use Rattle.rows.proofs.until_row.Goals as goal

pub returns-in-None : goal.returns-in-None
returns-in-None c t x y p F G few = let a = c.args in
    tells-until_once t.lead.now t.cycle.now few a.f a.g x y (F few) (G few) c.sweep-once.result (omega (arith, p, c.in-None.ensures)) c.sweep-once.ensures

pub returns-in-Some : goal.returns-in-Some
returns-in-Some c t x y p F G few = let a = c.args in
    let once = c.sweep-once in
    let z : c.in-Some.start % most_letters ≡ length t.cycle.now - 1 = omega (arith, p, few.most, c.in-Some.ensures) in
    tells-until_twice t.lead.now t.cycle.now few a.f a.g x y (F few) (G few) once.result c.sweep.result (λ e. omega (arith, p, c.in-Some.ensures)) once.ensures
    (subst (λ (n : ℕ). Swept a.f a.g (bit (once.result / 2 ^ n) 0) c.sweep.result) z c.sweep.ensures)
