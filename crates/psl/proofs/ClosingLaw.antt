-- A formula's closing table stands for that formula: each node has the value of what it closes.
use mathlib.Core.Path.{◌≡◌, refl, ap, ◌∙◌}
use mathlib.Core.List.{List, []}
use Prim.Native.Nat.{ℕ, ◌-◌}
use native.Mathlib.Omega.{arith}
use Rattle.table.specs.Node.{Node, node, numbers_of, ◌▸◌, last, look, grow}
use Rattle.table.proofs.NodeLaw.{nodes-numbers, Grown, grown_one, grown_join, length-grow}
use Rattle.logic.specs.Formula.{BoolExpr, btrue, var, bnot, band, Formula, weak, strong, fnot, fand, next, until, abort}
use Rattle.psl.specs.Table.{Part, boolean, formula, as_formula, part_of, formula_of}
use Rattle.psl.specs.Closing.{nodes_b, nodes, closing_nodes}

abbrev none : Part
none = boolean btrue

abbrev Part-of : List Node → List Node → Part → Type 0
Part-of ns ms x = Grown none part_of ns ms x

-- A node whose value follows from that of its operand, or from those of its two operands.
one_more : (ns ms : List Node) (k : ℕ) (x y : Part) → Part-of ns ms x
    → ((z : ℕ → Part) → z (last ms) ≡ x → part_of z (node k (last ms) 0) ≡ y) → Part-of ns (ms ▸ node k (last ms) 0) y
one_more ns ms k x y g e = grown_join none part_of g (grown_one none part_of ms (node k (last ms) 0) y (e (look none part_of (grow none part_of [] ms)) g.named.is))

two-more : (ns ms ps : List Node) (k : ℕ) (x y w : Part) → Part-of ns ms x → Part-of ms ps y
    → ((z : ℕ → Part) → z (last ms) ≡ x → z (last ps) ≡ y → part_of z (node k (last ms) (last ps)) ≡ w)
    → Part-of ns (ps ▸ node k (last ms) (last ps)) w
two-more ns ms ps k x y w g h e =
    grown_join none part_of (grown_join none part_of g h)
    (grown_one none part_of ps (node k (last ms) (last ps)) w (e (look none part_of (grow none part_of [] ps)) (h.kept (last ms) x g.named).is h.named.is))

grown_b : (b : BoolExpr) (ns : List Node) → Part-of ns (nodes_b b ns) (boolean b)
unfolding nodes_b part_of
grown_b btrue ns = grown_one none part_of ns (node 0 0 0) (boolean btrue) refl
grown_b (var k) ns = grown_one none part_of ns (node 1 k 0) (boolean (var k)) refl
grown_b (bnot b) ns = one_more ns (nodes_b b ns) 2 (boolean b) (boolean (bnot b)) (grown_b b ns) (λ z e. rw e)
grown_b (band b c) ns =
    let ms = nodes_b b ns in
    two-more ns ms (nodes_b c ms) 3 (boolean b) (boolean c) (boolean (band b c)) (grown_b b ns) (grown_b c ms) (λ z e d. rw (e, d))

grown : (f : Formula) (ns : List Node) → Part-of ns (nodes f ns) (formula f)
unfolding nodes part_of
grown (weak b) ns = one_more ns (nodes_b b ns) 4 (boolean b) (formula (weak b)) (grown_b b ns) (λ z e. rw e)
grown (strong b) ns = one_more ns (nodes_b b ns) 5 (boolean b) (formula (strong b)) (grown_b b ns) (λ z e. rw e)
grown (fnot f) ns = one_more ns (nodes f ns) 6 (formula f) (formula (fnot f)) (grown f ns) (λ z e. rw e)
grown (fand f g) ns =
    let ms = nodes f ns in
    two-more ns ms (nodes g ms) 7 (formula f) (formula g) (formula (fand f g)) (grown f ns) (grown g ms) (λ z e d. rw (e, d))
grown (next f) ns = one_more ns (nodes f ns) 8 (formula f) (formula (next f)) (grown f ns) (λ z e. rw e)
grown (until f g) ns =
    let ms = nodes f ns in
    two-more ns ms (nodes g ms) 9 (formula f) (formula g) (formula (until f g)) (grown f ns) (grown g ms) (λ z e d. rw (e, d))
grown (abort f b) ns =
    let ms = nodes f ns in
    two-more ns ms (nodes_b b ms) 10 (formula f) (boolean b) (formula (abort f b)) (grown f ns) (grown_b b ms) (λ z e d. rw (e, d))

pub closing_formula : (f : Formula) → formula_of (numbers_of (closing_nodes f)) ≡ f
unfolding formula_of
closing_formula f =
    let ns = closing_nodes f in
    let xs = grow none part_of [] ns in
    ap (λ (ms : List Node). as_formula (look none part_of (grow none part_of [] ms) (last (grow none part_of [] ms)))) (nodes-numbers ns)
    ∙ ap (λ (n : ℕ). as_formula (look none part_of xs n)) (ap (λ (n : ℕ). n - 1) (length-grow none part_of [] ns ∙ omega arith))
    ∙ ap as_formula (grown f []).named.is
