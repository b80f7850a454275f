-- `check_nodes` answers for the lowest node that is refused, or else for the uses.
use mathlib.Core.Path.{◌≡◌, sym, ap, ◌∙◌}
use Rattle.std.proofs.Common.{rules, Err}
use Rattle.table.specs.Answer.{checked}
use Rattle.psl.specs.Check.{psl_refusal}
use Rattle.psl.proofs.CheckLaw.{untallied, node_refused, nodes_passed}
use Rattle.psl.proofs.check_nodes.Goals as goal

pub count_uses-requires : goal.count_uses-requires
count_uses-requires g c = untallied c.args.t.now g.row.N c.requires.right_length c.requires.for_nodes

pub returns-in_err-count_uses : goal.returns-in_err-count_uses
returns-in_err-count_uses g c = let t = c.args.t.now in
    let h : Err c.in_err-count_uses.field-0.0 ≡ checked (psl_refusal t) = node_refused t c.requires.right_length c.count_uses.ensures.answer c.in_err-count_uses.was in
    search rules

pub returns : goal.returns
returns g c = c.check_uses.ensures ∙ sym (ap checked (nodes_passed c.args.t.now c.requires.right_length c.count_uses.ensures.answer c.in_ok-count_uses.was))
