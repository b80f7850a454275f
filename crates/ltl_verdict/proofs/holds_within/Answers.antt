-- The root's row, at moment 0.
use Rattle.std.proofs.Common.{refl, arith}
use Rattle.ltl.specs.Table.{tree_of}
use Rattle.ltl.proofs.AcceptedLaw.{some-node}
use Rattle.rows.proofs.TableLaw.{rows_root}
use Rattle.ltl_verdict.proofs.holds_within.Goals as goal

pub bounds-told-index : goal.bounds-told-index
bounds-told-index g c = omega (arith, c.index.ensures, c.root.ensures, some-node c.args.t.numbers.now c.args.t.accepted, c.requires.1)

pub returns : goal.returns
returns g c = let t = c.args.t.numbers.now in
    c.holds_first.ensures c.args.trace (tree_of t) refl c.requires.0 (λ _. rw (c.index.ensures, c.root.ensures) (rows_root t _ (some-node t c.args.t.accepted) c.fill_rows.ensures))
