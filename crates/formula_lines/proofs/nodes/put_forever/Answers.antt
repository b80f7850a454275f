-- `not` behind the operand, `until` with `strong true` before it, and `not` of that.
use Rattle.formula_lines.specs.Inner.Writes.{negated, strong_true, sometime}
use Rattle.formula_lines.proofs.WritesLaw.{writes-over, writes-two}
use Rattle.formula_lines.proofs.nodes.put_forever.Goals as goal

pub returns-clause-nodes : goal.returns-clause-nodes
returns-clause-nodes c =
    λ b x n l₀ l₁ v w.
    writes-over 6 (sometime (negated x)) (writes-two 9 strong_true (negated x) v (writes-over 6 x w c.put_over-n.ensures) c.put_both-n.ensures) c.put_over.ensures
