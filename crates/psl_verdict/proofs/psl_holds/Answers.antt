-- On the empty trace by the formula's shape, else by the translation's row at moment 0.
use Rattle.std.proofs.Common.{refl, arith}
use Rattle.logic.specs.Translation.{translated, falsum}
use Rattle.rows.specs.Inner.Rows.{FitsRow}
use Rattle.rows.proofs.RowLaw.{tells-false}
use Rattle.psl.specs.Nodes.{formula}
use Rattle.psl_verdict.proofs.HoldsLaw.{holds-none, holds-some}
use Rattle.psl_verdict.proofs.psl_holds.Goals as goal

pub returns-then-size-eq0 : goal.returns-then-size-eq0
returns-then-size-eq0 c = let z = c.args.trace in
    rw (← c.root-root.ensures) (holds-none (formula c.root-root.result) z.lead.now z.cycle.now (omega (arith, c.size.ensures, c.if-size-eq0.true)) c.on_empty.ensures)

pub returns : goal.returns
returns c =
    let f = formula c.root-root.result in
    let z = c.args.trace in
    let few : FitsRow z.lead.now z.cycle.now = record { some = omega (arith, c.size.ensures, c.if-size-eq0.false); most = c.requires } in
    let F = rw c.new-signals.ensures at c.formula_row.ensures.tells in
    let row = F falsum falsum (record { accept = tells-false; reject = tells-false }) in
    rw (← c.root-root.ensures) (holds-some f z.lead.now z.cycle.now c.holds_first.result few (c.holds_first.ensures z (translated f falsum falsum) refl few row))
