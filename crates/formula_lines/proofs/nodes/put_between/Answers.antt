-- Each turn writes one more.
use native.Mathlib.Omega.{arith}
use mathlib.Core.Path.{◌≡◌}
use Rattle.formula_lines.specs.Inner.Writes.{negations}
use Rattle.formula_lines.specs.Inner.Kinds.{number}
use Rattle.formula_lines.proofs.WritesLaw.{writes-negated}
use Rattle.formula_lines.proofs.nodes.put_between.Goals as goal

pub loop-init : goal.loop-init
loop-init c = record { few = c.requires; put = λ b x n l₀ w. w }

pub loop-preserved : goal.loop-preserved
loop-preserved c =
    record {
      few = omega (arith, c.put_over-nodes.ensures.counts);
      put = λ b x n l₀ w. writes-negated c.loop.counter x (c.loop.invariant.put b x n l₀ w) c.put_over-nodes.ensures;
    }

pub returns-clause-nodes : goal.returns-clause-nodes
returns-clause-nodes c =
    let e : c.loop.counter ≡ negations (number c.args.keyword) = omega (arith, c.negations-end.ensures, c.loop.auto.counter-end, c.loop-test.false) in
    λ b x n l₀ w. rw (← e) (c.loop.invariant.put b x n l₀ w)
