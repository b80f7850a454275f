-- The bit of the first letter stands for moment 0.
use Rattle.std.proofs.Common.{◌≡◌, ℕ, ◌+◌, ◌-◌, ◌/◌, ◌%◌, ◌^◌, Bool, T, ◌↔◌, sym, ◌∙◌, subst, arith}
use Rattle.logic.specs.Letter.{bit}
use Rattle.logic.specs.Trace.{size}
use Rattle.logic.specs.LtlMeaning.{LtlHoldsOn}
use Rattle.logic.proofs.BitLaw.{test_first, bit_brought}
use Rattle.rows.proofs.RowLaw.{tells_first}
use Rattle.trace.specs.Limits.{most_letters}
use Rattle.rows.proofs.holds_first.Goals as goal

pub returns : goal.returns
returns c t x p few W = let w = c.args.w in
    let lead = t.lead.now in
    let loop = t.cycle.now in
    let k = (c.size.result + (2 ^ 64 - 1)) % 2 ^ 64 % most_letters in
    let z : size lead loop - 1 ≡ k = omega (arith, p, c.size.ensures, few.some, few.most) in
    subst (λ (b : Bool). LtlHoldsOn x lead loop ↔ T b) (sym (test_first (w / 2 ^ k) ∙ bit_brought w k))
    (subst (λ (m : ℕ). LtlHoldsOn x lead loop ↔ T (bit w m)) z (tells_first few (W few)))
