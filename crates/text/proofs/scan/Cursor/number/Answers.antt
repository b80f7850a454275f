-- Each turn adds a digit, and after a first digit 0 there is none.
use native.Mathlib.Omega.{arith}
use mathlib.Core.Path.{refl, sym, ◌∙◌}
use Rattle.std.proofs.lemmas.Result.{err_from_is_err_and}
use Prim.Native.Nat.{◌+◌, ◌*◌}
use Rattle.text.proofs.ScanLaw.{so_far_one, so_far_more, after_zero, digit_read, digit_fault}
use Rattle.text.proofs.scan.Cursor.number.Goals as goal

pub returns-in_err-first-clause-read : goal.returns-in_err-first-clause-read
returns-in_err-first-clause-read c =
    let p = err_from_is_err_and c.from_residual.result c.from_residual.ensures.1 in
    rw (p.1, p.2) (digit_fault c.args.limit c.digit.new.self.at c.digit.result c.digit.ensures.read (sym c.ok_or.ensures.value ∙ c.in_err-first.was))

pub loop-more-init : goal.loop-more-init
loop-more-init c =
    let d = digit_read c.digit.result c.digit.ensures.read (sym c.ok_or.ensures.value ∙ c.in_ok-first.was) in
    record {
      line = c.digit.ensures.line;
      read = (10 * 0 + c.in_ok-first.first, so_far_one c.args.self.now.line.now c.args.self.now.at c.in_ok-first.first d, c.push-value.ensures 0 (refl, omega arith));
    }

pub returns-then-first-eq0-clause-read : goal.returns-then-first-eq0-clause-read
returns-then-first-eq0-clause-read c =
    let s = c.args.self.now.line.now in
    let at = c.args.self.now.at in
    let a = c.loop-more.invariant in
    let first = digit_read c.digit.result c.digit.ensures.read (sym c.ok_or.ensures.value ∙ c.in_ok-first.was) in
    let more = rw a.line at c.in-Some.ensures.read in
    (refl, λ h. after_zero s at c.in-Some.more c.if-first-eq0.true first a.read.1 more, λ h. omega (arith, first.2.within))

pub loop-more-preserved : goal.loop-more-preserved
loop-more-preserved c =
    let s = c.args.self.now.line.now in
    let at = c.args.self.now.at in
    let a = c.loop-more.invariant in
    let more = rw a.line at c.in-Some.ensures.read in
    record {
      line = c.in-Some.ensures.line ∙ a.line;
      read = (_, so_far_more s at c.in-Some.more c.if-first-eq0.false a.read.1 more, c.push-value-in-Some.ensures a.read.0 a.read.2);
    }
