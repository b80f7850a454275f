-- A letter has no bit past its signals; below, the bit is brought to the lowest place.
use Rattle.std.proofs.Common.{◌/◌, ◌^◌, ◌≤◌, ◌<◌, sym, ◌∙◌, arith}
use Rattle.logic.specs.Letter.{signals}
use Rattle.logic.proofs.BitLaw.{bit_past, test_first, bit_brought}
use Rattle.logic.proofs.holds_in.Goals as goal

pub returns-then-k-ge-SIGNALS : goal.returns-then-k-ge-SIGNALS
returns-then-k-ge-SIGNALS c =
    let a = c.args in
    let h : a.x < 2 ^ signals = omega arith in
    let l : signals ≤ a.k = omega arith in
    sym (bit_past a.x signals a.k h l)

pub returns : goal.returns
returns c = test_first (c.args.x / 2 ^ c.args.k) ∙ bit_brought c.args.x c.args.k
