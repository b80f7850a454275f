-- `check_places` answers the first test that fails.
use mathlib.Core.Path.{◌≡◌, ap, ◌∙◌}
use Rattle.std.proofs.Common.{rules, Err}
use Rattle.table.specs.Answer.{checked}
use Rattle.table.specs.Check.{places_refusal}
use Rattle.table.specs.Inner.Place.{uses_of}
use Rattle.table.proofs.PlaceLaw.{places-coded, test_passed, test_failed}
use Rattle.table.proofs.check_places.Goals as goal

pub returns-in_err-passed : goal.returns-in_err-passed
returns-in_err-passed g c = let a = c.args in
    let R = g.K.Kind.rules in
    let u = uses_of a.places in
    let h : Err c.in_err-passed.field-0.0 ≡ checked (places_refusal R u a.i.0 a.n.left a.n.right a.booleans.0 a.booleans.1) =
    rw (← c.unused_fits.ensures, ← c.unused_fits-2.ensures) (test_failed _ _ _ _ c.passed.ensures c.in_err-passed.was)
    ∙ ap checked (places-coded u a.i.0 a.n.left a.n.right a.booleans.0 a.booleans.1 R c.refusals-x.result c.refusals-x.ensures)
    in search rules

pub returns-in_err-passed-2 : goal.returns-in_err-passed-2
returns-in_err-passed-2 g c = let a = c.args in
    let R = g.K.Kind.rules in
    let u = uses_of a.places in
    let h : Err c.in_err-passed-2.field-0.0 ≡ checked (places_refusal R u a.i.0 a.n.left a.n.right a.booleans.0 a.booleans.1) =
    rw (
      ← c.unused_fits.ensures,
      ← c.unused_fits-2.ensures,
      test_passed _ _ _ c.passed.ensures c.in_ok-passed.was,
      ← c.signal_fits.ensures,
      ← c.signal_fits-2.ensures,
    )
    (test_failed _ _ _ _ c.passed-2.ensures c.in_err-passed-2.was)
    ∙ ap checked (places-coded u a.i.0 a.n.left a.n.right a.booleans.0 a.booleans.1 R c.refusals-x.result c.refusals-x.ensures)
    in search rules

pub returns-in_err-passed-3 : goal.returns-in_err-passed-3
returns-in_err-passed-3 g c = let a = c.args in
    let R = g.K.Kind.rules in
    let u = uses_of a.places in
    let h : Err c.in_err-passed-3.field-0.0 ≡ checked (places_refusal R u a.i.0 a.n.left a.n.right a.booleans.0 a.booleans.1) =
    rw (
      ← c.unused_fits.ensures,
      ← c.unused_fits-2.ensures,
      test_passed _ _ _ c.passed.ensures c.in_ok-passed.was,
      ← c.signal_fits.ensures,
      ← c.signal_fits-2.ensures,
      test_passed _ _ _ c.passed-2.ensures c.in_ok-passed-2.was,
      ← c.operand_fits.ensures,
      ← c.operand_fits-2.ensures,
    )
    (test_failed _ _ _ _ c.passed-3.ensures c.in_err-passed-3.was)
    ∙ ap checked (places-coded u a.i.0 a.n.left a.n.right a.booleans.0 a.booleans.1 R c.refusals-x.result c.refusals-x.ensures)
    in search rules

pub returns : goal.returns
returns g c = let a = c.args in
    let R = g.K.Kind.rules in
    let u = uses_of a.places in
    rw (
      ← c.unused_fits.ensures,
      ← c.unused_fits-2.ensures,
      test_passed _ _ _ c.passed.ensures c.in_ok-passed.was,
      ← c.signal_fits.ensures,
      ← c.signal_fits-2.ensures,
      test_passed _ _ _ c.passed-2.ensures c.in_ok-passed-2.was,
      ← c.operand_fits.ensures,
      ← c.operand_fits-2.ensures,
      test_passed _ _ _ c.passed-3.ensures c.in_ok-passed-3.was,
    )
    c.check_sorts.ensures
    ∙ ap checked (places-coded u a.i.0 a.n.left a.n.right a.booleans.0 a.booleans.1 R c.refusals-x.result c.refusals-x.ensures)
