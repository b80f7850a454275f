-- `refused_at` reads the node and the kinds of what its places name, as the definition does.
use mathlib.Core.Path.{ap, ◌∙◌}
use Rattle.table.specs.Answer.{checked}
use Rattle.table.specs.Rules.{boolean_kind}
use Rattle.table.proofs.CheckLaw.{read-node}
use Rattle.table.proofs.refused_at.Goals as goal

pub returns : goal.returns
returns g c = let R = g.K.Kind.rules in
    let n = c.node_in-n.ensures in
    c.check_node.ensures
    ∙ ap checked (read-node R c.args.t.now c.args.i.0 n.0 n.1 n.2
    (c.is_boolean-left.ensures ∙ ap (boolean_kind R.sorts) c.node_in.ensures.0) (c.is_boolean-right.ensures ∙ ap (boolean_kind R.sorts) c.node_in-2.ensures.0))
