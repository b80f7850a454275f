-- The rows go from node 0 up.
use Rattle.std.proofs.Common.{◌≡◌, ℕ, ◌+◌, ◌<◌, List, length, get_or, set, ◌∙◌, refl, sym, subst, arith}
use Rattle.std.specs.Prelude.{Option, Some}
use mathlib.Core.Option.{none}
use Rattle.table.specs.declared.Node.{Node}
use Rattle.table.specs.Takes.{NodeIs}
use Rattle.table.specs.Node.{count, kind_at, left_at, right_at}
use Rattle.logic.specs.Tree.{lvar}
use Rattle.trace.specs.declared.TraceView.{TraceView}
use Rattle.ltl.specs.declared.kind.Kind.{Kind}
use Rattle.ltl.specs.declared.kind.Kind.TheVariants.{True, Var, Not, And, Or, Next, Until}
use Rattle.ltl.specs.Kind.{number}
use Rattle.ltl.specs.Check.{ltl_refusal}
use Rattle.ltl.proofs.AcceptedLaw.{most-nodes, is-var, operands_below}
use Rattle.rows.specs.Inner.Rows.{TellsOn, TellsNode}
use Rattle.rows.proofs.TableLaw.{FirstRows, rows_more, tells-signal}
use Rattle.ltl_verdict.proofs.fill_rows.Goals as goal
use Rattle.ltl_verdict.proofs.fill_rows.Goals.{After-unwrap-node, in-Var, in_default}

signal : (k : Kind) → number k ≡ 1 → k ≡ Var
signal True e = absurd (omega (arith, e))
signal Var e = refl
signal Not e = absurd (omega (arith, e))
signal And e = absurd (omega (arith, e))
signal Or e = absurd (omega (arith, e))
signal Next e = absurd (omega (arith, e))
signal Until e = absurd (omega (arith, e))

-- One node more, by what its three numbers are.
more : {lead loop : List ℕ} (t told : List ℕ) (i k l r v : ℕ) → ltl_refusal t ≡ none → i < count t → i < length told
    → k ≡ kind_at t i → l ≡ left_at t i → r ≡ right_at t i → TellsNode lead loop k l (get_or told l 0) (get_or told r 0) v
    → FirstRows lead loop t i told → FirstRows lead loop t (i + 1) (set told i v)
more t told i k l r v fine h g ek el er N W = rows_more i v fine h g (rw (sym ek, sym el, sym er) N) W

-- The node that was read is node i.
read : (c : After-unwrap-node) → NodeIs number c.args.t.numbers.now c.loop-i.i (Some c.unwrap-node.result)
read c = let t = c.args.t.numbers.now in
    let own : c.from_index.result.0 ≡ c.loop-i.i = omega (arith, c.loop-i-test.true, c.nodes-i-end.ensures, most-nodes t c.args.t.accepted) in
    subst (λ (m : ℕ). NodeIs number t m (Some c.unwrap-node.result)) own
    (subst (λ (o : Option (Node Kind)). NodeIs number t c.from_index.result.0 o) c.unwrap-node.ensures c.node.ensures)

-- The rows of a node's operands are there.
below : (c : After-unwrap-node) → (c.unwrap-node.result.kind ≡ Var → ⊥)
    → (c.unwrap-node.result.left < length c.loop-i.told) × (c.unwrap-node.result.right < length c.loop-i.told)
below c h = let t = c.args.t.numbers.now in
    let N = read c in
    let o = operands_below t c.args.t.accepted c.loop-i.i N.0 (λ e. h (signal c.unwrap-node.result.kind (N.1 ∙ e))) (length c.loop-i.told) (omega (arith, N.0, c.requires.1)) in
    rw (N.2, N.3) o

pub bounds-told-from : goal.bounds-told-from
bounds-told-from c = omega (arith, c.from.ensures, below (goal.at.bounds-told-from c).After-unwrap-node c.in_default.not-Var)

pub bounds-told-from-in_default : goal.bounds-told-from-in_default
bounds-told-from-in_default c = omega (arith, c.from-in_default.ensures, below (goal.at.bounds-told-from-in_default c).After-unwrap-node c.in_default.not-Var)

pub loop-i-preserved : goal.loop-i-preserved
loop-i-preserved c = let t = c.args.t.numbers.now in
    let i = c.loop-i.i in
    let W = c.loop-i.told in
    let I = c.loop-i.invariant in
    let n = c.unwrap-node.result in
    let N = read (goal.at.loop-i-preserved c).After-unwrap-node in
    let few = c.requires.0 in
    let fine = c.args.t.accepted in
    let room : i < length W = omega (arith, N.0, c.requires.1) in
    elim c.match-node.branch [
      | in-Var w ↦
          let e : number n.kind ≡ 1 = rw w.in-Var.is refl in
          let b : n.left < 32 = omega (arith, N.2, is-var t fine i N.0 (sym N.1 ∙ e)) in
          let row = subst (λ (T : TraceView). TellsOn T w.row.result (lvar n.left)) I.same_trace (w.row.ensures.tells b) in
          record {
            same_trace = rw w.signals-is (w.row.ensures.same_trace ∙ I.same_trace);
            first = rw w.told-is (more t W i (number n.kind) n.left n.right w.row.result fine N.0 room N.1 N.2 N.3 (tells-signal e (row few)) I.first);
          }
      | in_default w ↦
          record {
            same_trace = rw w.signals-is I.same_trace;
            first = rw w.told-is (
                more t W i (number n.kind) w.from.result w.from-in_default.result w.node_row.result fine N.0 room
                N.1 (w.from.ensures ∙ N.2) (w.from-in_default.ensures ∙ N.3)
                (w.node_row.ensures c.args.trace w.from.result refl few w.in_default.not-Var) I.first);
          }
    ]
