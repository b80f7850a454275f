-- A node over the operand, or what a short form has.
use Rattle.psl.specs.Kind.{number}
use Rattle.formula_lines.proofs.WritesLaw.{writes-over, writes-after}
use Rattle.formula_lines.proofs.ShortLaw.{plain}
use Rattle.formula_lines.proofs.nodes.close_one.Goals as goal

pub returns-in-Node-clause-nodes : goal.returns-in-Node-clause-nodes
returns-in-Node-clause-nodes c =
    λ b x n l₀ l₁ v w.
    let p = plain c.in-Node.kind in
    let v' = rw (c.in-Node.is, p.opens) at v in
    rw (c.in-Node.is, p.one) (writes-over (number c.in-Node.kind) x (writes-after x v' w) c.put_over.ensures)

pub returns-in-Short-clause-nodes : goal.returns-in-Short-clause-nodes
returns-in-Short-clause-nodes c = λ b x n l₀ l₁ v w. rw c.in-Short.is (c.close_short_one.ensures.nodes b x n l₀ l₁ (rw c.in-Short.is at v) w)
