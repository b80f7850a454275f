-- `not` behind the second, `and` of both, and `not` of that.
use Rattle.formula_lines.specs.Inner.Writes.{negated, both}
use Rattle.formula_lines.proofs.WritesLaw.{writes-over, writes-two}
use Rattle.formula_lines.proofs.nodes.put_not_without.Goals as goal

pub returns-clause-nodes : goal.returns-clause-nodes
returns-clause-nodes c =
    λ b x y n l₀ l₁ v w.
    writes-over 6 (both 7 x (negated y)) (writes-two 7 x (negated y) v (writes-over 6 y w c.put_over-n.ensures) c.put_both-n.ensures) c.put_over.ensures
