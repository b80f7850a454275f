-- The emitted table, read back, is the translation; and how long it is.
use Prim.Native.Nat.{ℕ, ◌+◌, ◌*◌, ◌≤◌}
use mathlib.Core.Path.{◌≡◌, refl, ap, ap₂, ◌∙◌}
use mathlib.Core.List.{List, [], ◌∷◌}
use native.Mathlib.Omega.{arith}
use lib.ListN.{length}
use Rattle.table.specs.Node.{Node, ◌▸◌, last, look, grow}
use Rattle.std.proofs.SliceLists.{length_more}
use Rattle.table.proofs.NodeLaw.{nodes-numbers, length-numbers, length-grow, Named, Grown, grown_one, grown_join}
use Rattle.logic.specs.Formula.{BoolExpr, btrue, var, bnot, band, Formula, weak, strong, fnot, fand, next, until, abort}
use Rattle.psl.specs.Size.{weigh_b, weigh, node_count}
use Rattle.logic.specs.Tree.{Ltl, ltrue, lvar, lnot, land, lor, lnext, luntil}
use Rattle.ltl.specs.Table.{tree_of_node, tree_of, true_node, not_node, and_node, or_node, next_node, until_node}
use Rattle.logic.specs.Translation.{tree_b, translated, falsum}
use Rattle.translate.specs.Emitted.{walked_b, gated, walked, emitted_nodes, emitted, added_by, emitted_size, most_emitted}
use Rattle.psl.specs.Check.{psl_rules}

-- ── What the walk appends ──

abbrev NamedL : List Node → ℕ → Ltl → Type 0
NamedL ns i x = Named ltrue tree_of_node ns i x

abbrev GrownL : List Node → List Node → Ltl → Type 0
GrownL ns ms x = Grown ltrue tree_of_node ns ms x

-- The tree that node i of a list of nodes stands for.
abbrev tree : List Node → ℕ → Ltl
tree ns i = look ltrue tree_of_node (grow ltrue tree_of_node [] ns) i

-- One more node.
one : (ns : List Node) (n : Node) (x : Ltl) → tree_of_node (tree ns) n ≡ x → GrownL ns (ns ▸ n) x
one ns n x e = grown_one ltrue tree_of_node ns n x e

join : {ns ms ps : List Node} {x y : Ltl} → GrownL ns ms x → GrownL ms ps y → GrownL ns ps y
join p q = grown_join ltrue tree_of_node p q

grown_not : (ns : List Node) (i : ℕ) (x : Ltl) → NamedL ns i x → GrownL ns (ns ▸ not_node i) (lnot x)
unfolding tree_of_node
grown_not ns i x h = one ns (not_node i) (lnot x) (ap lnot h.is)

grown_and : (ns : List Node) (i j : ℕ) (x y : Ltl) → NamedL ns i x → NamedL ns j y → GrownL ns (ns ▸ and_node i j) (land x y)
unfolding tree_of_node
grown_and ns i j x y h g = one ns (and_node i j) (land x y) (ap₂ land h.is g.is)

grown_or : (ns : List Node) (i j : ℕ) (x y : Ltl) → NamedL ns i x → NamedL ns j y → GrownL ns (ns ▸ or_node i j) (lor x y)
unfolding tree_of_node
grown_or ns i j x y h g = one ns (or_node i j) (lor x y) (ap₂ lor h.is g.is)

grown_next : (ns : List Node) (i : ℕ) (x : Ltl) → NamedL ns i x → GrownL ns (ns ▸ next_node i) (lnext x)
unfolding tree_of_node
grown_next ns i x h = one ns (next_node i) (lnext x) (ap lnext h.is)

grown_until : (ns : List Node) (i j : ℕ) (x y : Ltl) → NamedL ns i x → NamedL ns j y → GrownL ns (ns ▸ until_node i j) (luntil x y)
unfolding tree_of_node
grown_until ns i j x y h g = one ns (until_node i j) (luntil x y) (ap₂ luntil h.is g.is)

grown_gate : (ns : List Node) (a r : ℕ) (x A R : Ltl) → NamedL ns (last ns) x → NamedL ns a A → NamedL ns r R
    → GrownL ns (gated a r ns) (lor A (land x (lnot R)))
grown_gate ns a r x A R hx ha hr =
    let ms = ns ▸ not_node r in
    let p = grown_not ns r R hr in
    let ps = ms ▸ and_node (last ns) (last ms) in
    let q = join p (grown_and ms (last ns) (last ms) x (lnot R) (p.kept (last ns) x hx) p.named) in
    join q (grown_or ps a (last ps) A (land x (lnot R)) (q.kept a A ha) q.named)

grown_b : (b : BoolExpr) (ns : List Node) → GrownL ns (walked_b b ns) (tree_b b)
unfolding walked_b tree_of_node
grown_b btrue ns = one ns _ ltrue refl
grown_b (var k) ns = one ns _ (lvar k) refl
grown_b (bnot b) ns =
    let p = grown_b b ns in
    join p (grown_not (walked_b b ns) (last (walked_b b ns)) (tree_b b) p.named)
grown_b (band b c) ns =
    let ms = walked_b b ns in
    let ps = walked_b c ms in
    let p = grown_b b ns in
    let q = grown_b c ms in
    join p (join q (grown_and ps (last ms) (last ps) (tree_b b) (tree_b c) (q.kept (last ms) (tree_b b) p.named) q.named))

-- A Boolean under its gate: weak, strong, and an abort's condition.
grown_literal : (b : BoolExpr) (ns : List Node) (a r : ℕ) (A R : Ltl) → NamedL ns a A → NamedL ns r R
    → GrownL ns (gated a r (walked_b b ns)) (lor A (land (tree_b b) (lnot R)))
grown_literal b ns a r A R ha hr =
    let p = grown_b b ns in
    join p (grown_gate (walked_b b ns) a r (tree_b b) A R p.named (p.kept a A ha) (p.kept r R hr))

grown : (f : Formula) (ns : List Node) (a r : ℕ) (A R : Ltl) → NamedL ns a A → NamedL ns r R
    → GrownL ns (walked f a r ns) (translated f A R)
unfolding walked
grown (weak b) ns a r A R ha hr = grown_literal b ns a r A R ha hr
grown (strong b) ns a r A R ha hr = grown_literal b ns a r A R ha hr
grown (fnot f) ns a r A R ha hr =
    let p = grown f ns r a R A hr ha in
    join p (grown_not (walked f r a ns) (last (walked f r a ns)) (translated f R A) p.named)
grown (fand f g) ns a r A R ha hr =
    let ms = walked f a r ns in
    let ps = walked g a r ms in
    let p = grown f ns a r A R ha hr in
    let q = grown g ms a r A R (p.kept a A ha) (p.kept r R hr) in
    join p (join q
    (grown_and ps (last ms) (last ps) (translated f A R) (translated g A R) (q.kept (last ms) (translated f A R) p.named) q.named))
grown (next f) ns a r A R ha hr =
    let ms = walked f a r ns in
    let ps = ms ▸ next_node (last ms) in
    let p = grown f ns a r A R ha hr in
    let q = join p (grown_next ms (last ms) (translated f A R) p.named) in
    join q (grown_gate ps a r (lnext (translated f A R)) A R q.named (q.kept a A ha) (q.kept r R hr))
grown (until f g) ns a r A R ha hr =
    let ms = walked f a r ns in
    let ps = walked g a r ms in
    let p = grown f ns a r A R ha hr in
    let q = grown g ms a r A R (p.kept a A ha) (p.kept r R hr) in
    join p (join q
    (grown_until ps (last ms) (last ps) (translated f A R) (translated g A R) (q.kept (last ms) (translated f A R) p.named) q.named))
grown (abort f b) ns a r A R ha hr =
    let ps = gated a r (walked_b b ns) in
    let p = grown_literal b ns a r A R ha hr in
    join p (grown f ps (last ps) r (lor A (land (tree_b b) (lnot R))) R p.named (p.kept r R hr))

abbrev first_two : List Node
first_two = true_node ∷ not_node 0 ∷ []

-- The numbers of the emitted table, read back, give the tree of the translation.
pub tree_emitted : (f : Formula) → tree_of (emitted f) ≡ translated f falsum falsum
unfolding tree_of emitted tree_of_node
tree_emitted f =
    let h : NamedL first_two 1 falsum = record { below = omega arith; is = refl } in
    let p = grown f first_two 1 1 falsum falsum h h in
    rw (nodes-numbers (emitted_nodes f))
    (ap (tree (emitted_nodes f)) (omega (arith, length-grow ltrue tree_of_node [] (emitted_nodes f))) ∙ p.named.is)

-- ── The size ──

pub length-gate : (a r : ℕ) (ns : List Node) → length (gated a r ns) ≡ length ns + 3
length-gate a r ns =
    let ms = ns ▸ not_node r in
    let ps = ms ▸ and_node (last ns) (last ms) in
    omega (arith, length_more ns (not_node r), length_more ms (and_node (last ns) (last ms)), length_more ps (or_node a (last ps)))

pub length_walk_b : (b : BoolExpr) (ns : List Node) → length (walked_b b ns) ≡ length ns + weigh_b added_by b
unfolding walked_b weigh_b added_by
length_walk_b btrue ns = length_more ns _
length_walk_b (var k) ns = length_more ns _
length_walk_b (bnot b) ns = omega (arith, length_more (walked_b b ns) (not_node (last (walked_b b ns))), length_walk_b b ns)
length_walk_b (band b c) ns =
    let ms = walked_b b ns in
    let ps = walked_b c ms in
    omega (arith, length_more ps (and_node (last ms) (last ps)), length_walk_b b ns, length_walk_b c ms)

pub length-walk : (f : Formula) (a r : ℕ) (ns : List Node) → length (walked f a r ns) ≡ length ns + weigh added_by f
unfolding walked weigh added_by
length-walk (weak b) a r ns = omega (arith, length-gate a r (walked_b b ns), length_walk_b b ns)
length-walk (strong b) a r ns = omega (arith, length-gate a r (walked_b b ns), length_walk_b b ns)
length-walk (fnot f) a r ns = omega (arith, length_more (walked f r a ns) (not_node (last (walked f r a ns))), length-walk f r a ns)
length-walk (fand f g) a r ns =
    let ms = walked f a r ns in
    let ps = walked g a r ms in
    omega (arith, length_more ps (and_node (last ms) (last ps)), length-walk f a r ns, length-walk g a r ms)
length-walk (next f) a r ns =
    let ms = walked f a r ns in
    let ps = ms ▸ next_node (last ms) in
    omega (arith, length-gate a r ps, length_more ms (next_node (last ms)), length-walk f a r ns)
length-walk (until f g) a r ns =
    let ms = walked f a r ns in
    let ps = walked g a r ms in
    omega (arith, length_more ps (until_node (last ms) (last ps)), length-walk f a r ns, length-walk g a r ms)
length-walk (abort f b) a r ns =
    let ms = walked_b b ns in
    let ps = gated a r ms in
    omega (arith, length-walk f (last ps) r ps, length-gate a r ms, length_walk_b b ns)

-- The emitted list has 3 × S numbers.
pub length-emitted : (f : Formula) → length (emitted f) ≡ 3 * emitted_size f
unfolding emitted
length-emitted f = omega (arith, length-numbers (emitted_nodes f), length-walk f 1 1 first_two)

adds_b : (b : BoolExpr) → (weigh_b added_by b ≡ weigh_b (λ k. 1) b) × (1 ≤ weigh_b added_by b)
unfolding weigh_b added_by
adds_b btrue = (refl, omega arith)
adds_b (var k) = (refl, omega arith)
adds_b (bnot b) = (omega (arith, (adds_b b).0), omega (arith, (adds_b b).1))
adds_b (band b c) = (omega (arith, (adds_b b).0, (adds_b c).0), omega (arith, (adds_b b).1))

adds-bound : (f : Formula) → weigh added_by f + 4 ≤ 4 * node_count f
unfolding weigh added_by
adds-bound (weak b) = omega (arith, (adds_b b).0, (adds_b b).1)
adds-bound (strong b) = omega (arith, (adds_b b).0, (adds_b b).1)
adds-bound (fnot f) = omega (arith, adds-bound f)
adds-bound (fand f g) = omega (arith, adds-bound f, adds-bound g)
adds-bound (next f) = omega (arith, adds-bound f)
adds-bound (until f g) = omega (arith, adds-bound f, adds-bound g)
adds-bound (abort f b) = omega (arith, adds-bound f, (adds_b b).0, (adds_b b).1)

-- The largest table that a formula of at most 1,024 nodes emits has 4,094 nodes.
pub size-bound : (f : Formula) → node_count f ≤ psl_rules.most → emitted_size f ≤ most_emitted
size-bound f h = omega (arith, adds-bound f)
