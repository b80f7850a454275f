-- `count_uses` answers for the lowest node that is refused; where none is, its counts are those of all nodes.
use mathlib.Core.Path.{◌≡◌, sym, ap, ◌∙◌}
use mathlib.Core.Bool.{true, false, not}
use mathlib.Core.Option.{none}
use native.Mathlib.Omega.{arith}
use Rattle.std.proofs.Common.{rules}
use borrow.Author.Tests.{not-true, not-false}
use Rattle.table.specs.Node.{kind_at, left_at, right_at}
use Rattle.table.specs.Rules.{shape_of}
use Rattle.table.specs.Check.{refusal_at}
use Rattle.table.specs.Inner.Place.{uses_of}
use Rattle.table.proofs.NodeLaw.{node_read}
use Rattle.table.proofs.CheckLaw.{Fast, fast_none, fast_some, unknown_some}
use Rattle.psl.specs.Check.{psl_rules}
use Rattle.psl.proofs.CheckLaw.{lowest_answer, refused_answer, left_asked, right_asked, tallied_more, fast_by}
use Rattle.psl.proofs.count_uses.Goals as goal
use Rattle.psl.proofs.count_uses.Goals.{In_default, After-places_fit}

-- A number that is no kind.
unknown : (d : In_default) → refusal_at psl_rules d.args.t.now d.loop-i.i ≡ none → ⊥
unknown d =
    let n = node_read d.nodes_of-x-items.ensures d.loop-i.i (omega arith) d.from-n.ensures in
    let e : d.from-n.result.kind ≡ kind_at d.args.t.now d.loop-i.i = cc in
    unknown_some psl_rules d.args.t.now d.loop-i.i (omega (arith, e, d.in_default.ensures))

-- The node that was read is node i, and has its number.
own : (p : After-places_fit) → p.from_index-own.result.0 ≡ p.loop-i.i
own p = search rules

read : (p : After-places_fit) → let n = p.from-n.result in
    (n.kind ≡ kind_at p.args.t.now p.loop-i.i) × (n.left ≡ left_at p.args.t.now p.loop-i.i) × (n.right ≡ right_at p.args.t.now p.loop-i.i)
read p = let n = node_read p.nodes_of-x-items.ensures p.loop-i.i (omega arith) p.from-n.ensures in (cc, cc, cc)

-- What its places hold, and what their test says.
uses : (p : After-places_fit) → uses_of p.places-places.result ≡ shape_of psl_rules (kind_at p.args.t.now p.loop-i.i)
uses p = p.places-places.ensures ∙ ap (shape_of psl_rules) (p.in-Ok.ensures.0 ∙ (read p).0)

fits : (p : After-places_fit) → p.places_fit.result ≡ Fast psl_rules p.args.t.now p.loop-i.i
fits p = let n = read p in fast_by _ _ _ _ _ (uses p) n.1 n.2 (rw (own p) at p.places_fit.ensures)

fine : (p : After-places_fit) → not p.places_fit.result ≡ false → refusal_at psl_rules p.args.t.now p.loop-i.i ≡ none
fine p e = fast_none psl_rules p.args.t.now p.loop-i.i (omega (arith, (read p).0, p.in-Ok.ensures.1)) (sym (fits p) ∙ not-false _ e)

unfit : (p : After-places_fit) → not p.places_fit.result ≡ true → refusal_at psl_rules p.args.t.now p.loop-i.i ≡ none → ⊥
unfit p e = fast_some psl_rules p.args.t.now p.loop-i.i (sym (fits p) ∙ not-true _ e)

pub returns-in_default-clause-answer : goal.returns-in_default-clause-answer
returns-in_default-clause-answer c = let same : c.from_index-own.result.0 ≡ c.loop-i.i = search rules in
    lowest_answer c.args.t.now c.loop-i.i (omega arith) c.loop-i.invariant.1.passed (unknown (goal.at.returns-in_default-clause-answer c).In_default) (rw same at c.refused_at.ensures)

pub returns-in_default-clause-counts : goal.returns-in_default-clause-counts
returns-in_default-clause-counts c = let same : c.from_index-own.result.0 ≡ c.loop-i.i = search rules in
    refused_answer c.args.t.now c.loop-i.i _ (unknown (goal.at.returns-in_default-clause-counts c).In_default) (rw same at c.refused_at.ensures)

pub returns-then-not-places_fit-clause-answer : goal.returns-then-not-places_fit-clause-answer
returns-then-not-places_fit-clause-answer c = let p = (goal.at.returns-then-not-places_fit-clause-answer c).After-places_fit in
    lowest_answer c.args.t.now c.loop-i.i (omega arith) c.loop-i.invariant.1.passed (unfit p (ap not c.if-not-places_fit.true)) (rw (own p) at c.refused_at-then-not-places_fit.ensures)

pub returns-then-not-places_fit-clause-counts : goal.returns-then-not-places_fit-clause-counts
returns-then-not-places_fit-clause-counts c = let p = (goal.at.returns-then-not-places_fit-clause-counts c).After-places_fit in
    refused_answer c.args.t.now c.loop-i.i _ (unfit p (ap not c.if-not-places_fit.true)) (rw (own p) at c.refused_at-then-not-places_fit.ensures)

pub count_place-requires : goal.count_place-requires
count_place-requires c = let p = (goal.at.count_place-requires c).After-places_fit in
    left_asked _ _ _ _ _ (uses p) (read p).1 (read p).2 c.loop-i.invariant.1 (omega arith) (fine p (ap not c.if-not-places_fit.false))

pub count_place-requires-in-loop-i : goal.count_place-requires-in-loop-i
count_place-requires-in-loop-i c = let p = (goal.at.count_place-requires-in-loop-i c).After-places_fit in
    right_asked _ _ _ _ _ (uses p) (read p).1 (read p).2 c.loop-i.invariant.1 (omega arith) (fine p (ap not c.if-not-places_fit.false)) _ c.count_place.ensures

pub loop-i-preserved : goal.loop-i-preserved
loop-i-preserved c = let p = (goal.at.loop-i-preserved c).After-places_fit in (
  c.count_place-in-loop-i.ensures.same ∙ c.count_place.ensures.same ∙ c.loop-i.invariant.0,
  tallied_more _ _ _ _ _ (uses p) (read p).1 (read p).2 c.loop-i.invariant.1 (omega arith) (fine p (ap not c.if-not-places_fit.false)) _ c.count_place.ensures _ c.count_place-in-loop-i.ensures,
)
