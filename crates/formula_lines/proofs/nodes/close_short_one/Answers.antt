-- Each short form of one operand.
use Rattle.formula_lines.specs.Inner.Writes.{opens, one_nodes, strong_true, negated, over}
use Rattle.formula_lines.proofs.WritesLaw.{writes-over, writes-two, writes-after}
use Rattle.formula_lines.proofs.ShortLaw.{weak_next}
use Rattle.formula_lines.proofs.nodes.close_short_one.Goals as goal

pub returns-in-Eventually-clause-nodes : goal.returns-in-Eventually-clause-nodes
unfolding opens one_nodes
returns-in-Eventually-clause-nodes c = rw c.in-Eventually.is (λ b x n l₀ l₁ v w. writes-two 9 strong_true x v w c.put_both.ensures)

pub returns-in-Always-clause-nodes : goal.returns-in-Always-clause-nodes
unfolding opens one_nodes
returns-in-Always-clause-nodes c = rw c.in-Always.is (λ b x n l₀ l₁ v w. c.put_forever.ensures.nodes b x n l₀ l₁ v w)

pub returns-in_default-clause-nodes : goal.returns-in_default-clause-nodes
returns-in_default-clause-nodes c =
    λ b x n l₀ l₁ v w.
    let (o, e) = weak_next c.args.short x c.in_default.not-Eventually c.in_default.not-Always in
    let v' = rw o at v in
    rw e (writes-over 6 (over 8 (negated x)) (writes-over 8 (negated x) (writes-over 6 x (writes-after x v' w) c.put_over-n.ensures) c.put_over-n-in_default.ensures) c.put_over.ensures)
