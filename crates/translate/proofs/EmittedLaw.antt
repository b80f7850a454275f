-- The emitted table passes the LTL check: each node's operands come before it, and its signals are the formula's.
use mathlib.Core.Path.{◌≡◌, refl, sym, subst}
use mathlib.Core.Bool.{Bool, false}
use mathlib.Core.List.{List, [], ◌∷◌}
use mathlib.Core.Option.{none}
use Prim.Native.Nat.{ℕ, zero, suc, ◌-◌, ◌<◌, ◌≤◌}
use native.Mathlib.Omega.{arith}
use lib.ListN.{length}
use Rattle.logic.specs.Letter.{signals}
use Rattle.table.specs.Node.{Node, node, count, kind_at, left_at, right_at, ◌▸◌, last}
use Rattle.table.specs.Rules.{operand, unused, signal, shape_of}
use Rattle.table.specs.Check.{table_refusal}
use Rattle.std.proofs.SliceLists.{length_more}
use Rattle.table.proofs.CheckLaw.{Fits, table_sound, kind_in}
use Rattle.table.proofs.PassesLaw.{PassFrom, pass_none, pass_more, nodes_pass}
use Rattle.table.proofs.KindLaw.{◌⨾◌, each}
use Rattle.logic.specs.Formula.{BoolExpr, btrue, var, bnot, band, Formula, weak, strong, fnot, fand, next, until, abort}
use Rattle.psl.specs.Table.{Part, boolean, formula, as_boolean, as_formula, part_of, formula_of}
use Rattle.psl.specs.Inner.Parts.{part_at}
use Rattle.psl.specs.Check.{psl_rules, psl_refusal}
use Rattle.psl.proofs.CheckLaw.{psl-table}
use Rattle.psl.proofs.PartLaw.{part-root, part-node}
use Rattle.psl.proofs.AcceptedLaw.{some-node}
use Rattle.ltl.specs.Check.{ltl_rules, ltl_refusal}
use Rattle.ltl.specs.Table.{true_node, not_node, and_node, or_node, next_node, until_node}
use Rattle.translate.specs.Emitted.{walked_b, gated, walked, emitted_nodes, emitted, emitted_size}
use Rattle.translate.proofs.WalkLaw.{length-gate, length_walk_b, length-walk}
use Rattle.translate.proofs.ArmLaw.{weight_b_pos, weight_pos}

-- ── The signals of a formula ──

-- All are below `signals`.
abbrev LowB : BoolExpr → Type 0
LowB btrue = Unit {0}
LowB (var k) = k < signals
LowB (bnot b) = LowB b
LowB (band b c) = LowB b × LowB c

abbrev Low : Formula → Type 0
Low (weak b) = LowB b
Low (strong b) = LowB b
Low (fnot f) = Low f
Low (fand f g) = Low f × Low g
Low (next f) = Low f
Low (until f g) = Low f × Low g
Low (abort f b) = Low f × LowB b

abbrev LowPart : Part → Type 0
LowPart (boolean b) = LowB b
LowPart (formula f) = Low f

boolean-low : (p : Part) → LowPart p → LowB (as_boolean p)
boolean-low (boolean b) h = h
boolean-low (formula f) h = tt

formula-low : (p : Part) → LowPart p → Low (as_formula p)
formula-low (boolean b) h = tt
formula-low (formula f) h = h

-- A node of an accepted table, kind by kind.
part_low : (x : ℕ → Part) (i l r : ℕ) (b c : Bool) (k : ℕ) → k < 11 → Fits psl_rules (shape_of psl_rules k).0 l i b → Fits psl_rules (shape_of psl_rules k).1 r i c
    → ((j : ℕ) → j < i → LowPart (x j)) → LowPart (part_of x (node k l r))
unfolding part_of
part_low x i l r b c =
    each (λ k. Fits psl_rules (shape_of psl_rules k).0 l i b → Fits psl_rules (shape_of psl_rules k).1 r i c → ((j : ℕ) → j < i → LowPart (x j)) → LowPart (part_of x (node k l r))) 11
    ((λ f g y. tt)
    ⨾ (λ f g y. f.low)
    ⨾ (λ f g y. boolean-low (x l) (y l f.low))
    ⨾ (λ f g y. (boolean-low (x l) (y l f.low), boolean-low (x r) (y r g.low)))
    ⨾ (λ f g y. boolean-low (x l) (y l f.low))
    ⨾ (λ f g y. boolean-low (x l) (y l f.low))
    ⨾ (λ f g y. formula-low (x l) (y l f.low))
    ⨾ (λ f g y. (formula-low (x l) (y l f.low), formula-low (x r) (y r g.low)))
    ⨾ (λ f g y. formula-low (x l) (y l f.low))
    ⨾ (λ f g y. (formula-low (x l) (y l f.low), formula-low (x r) (y r g.low)))
    ⨾ (λ f g y. (formula-low (x l) (y l f.low), boolean-low (x r) (y r g.low)))
    ⨾ tt)

parts_low : (t : List ℕ) → table_refusal psl_rules t ≡ none → (n i : ℕ) → i < n → i < count t → LowPart (part_at t i)
parts_low t e zero i h g = absurd (omega arith)
parts_low t e (suc n) i h g =
    let s = table_sound psl_rules t e i g in
    subst LowPart (sym (part-node t e i g))
    (part_low (part_at t) i (left_at t i) (right_at t i) _ _ (kind_at t i) (kind_in psl_rules t e i g) s.left s.right
    (λ j l. parts_low t e n j (omega arith) (omega arith)))

signals-low : (t : List ℕ) → psl_refusal t ≡ none → Low (formula_of t)
signals-low t e =
    let last = count t - 1 in
    subst Low (sym (part-root t)) (formula-low (part_at t last) (parts_low t (psl-table t e) (count t) last (omega (arith, some-node t e)) (omega (arith, some-node t e))))

-- ── Nodes that pass ──

abbrev Fine : List Node → Type 0
Fine ns = PassFrom ltl_rules 0 ns

-- A place for each use.
named : {n i : ℕ} {b : Bool} → n < i → Fits ltl_rules (operand false) n i b
named h = record { low = h; sort = refl }

blank : {i : ℕ} {b : Bool} → Fits ltl_rules unused 0 i b
blank = record { low = omega arith; sort = refl }

small : {k i : ℕ} {b : Bool} → k < signals → Fits ltl_rules signal k i b
small h = record { low = h; sort = refl }

-- ── The walk ──

last_b : (b : BoolExpr) (ns : List Node) → last (walked_b b ns) < length (walked_b b ns)
last_b b ns = omega (arith, length_walk_b b ns, weight_b_pos b)

last_f : (f : Formula) (a r : ℕ) (ns : List Node) → last (walked f a r ns) < length (walked f a r ns)
last_f f a r ns = omega (arith, length-walk f a r ns, weight_pos f)

fine_b : (b : BoolExpr) → LowB b → (ns : List Node) → Fine ns → Fine (walked_b b ns)
unfolding walked_b
fine_b btrue h ns f = pass_more ltl_rules _ f (omega arith, blank, blank)
fine_b (var k) h ns f = pass_more ltl_rules _ f (omega arith, small h, blank)
fine_b (bnot b) h ns f = pass_more ltl_rules (not_node (last (walked_b b ns))) (fine_b b h ns f) (omega arith, named (last_b b ns), blank)
fine_b (band b c) (h, g) ns f =
    let ms = walked_b b ns in
    let ps = walked_b c ms in
    pass_more ltl_rules (and_node (last ms) (last ps)) (fine_b c g ms (fine_b b h ns f)) (omega arith, named (omega (arith, last_b b ns, length_walk_b c ms)), named (last_b c ms))

fine_gate : (a r : ℕ) (ns : List Node) → last ns < length ns → a < length ns → r < length ns → Fine ns → Fine (gated a r ns)
fine_gate a r ns hx ha hr f =
    let ms = ns ▸ not_node r in
    let ps = ms ▸ and_node (last ns) (last ms) in
    let m = length_more ns (not_node r) in
    let p = length_more ms (and_node (last ns) (last ms)) in
    let fm = pass_more ltl_rules (not_node r) f (omega arith, named hr, blank) in
    let fp = pass_more ltl_rules (and_node (last ns) (last ms)) fm (omega arith, named (omega arith), named (omega arith)) in
    pass_more ltl_rules (or_node a (last ps)) fp (omega arith, named (omega arith), named (omega arith))

fine_literal : (b : BoolExpr) → LowB b → (a r : ℕ) (ns : List Node) → a < length ns → r < length ns → Fine ns → Fine (gated a r (walked_b b ns))
fine_literal b h a r ns ha hr f =
    fine_gate a r (walked_b b ns) (last_b b ns) (omega (arith, length_walk_b b ns)) (omega (arith, length_walk_b b ns)) (fine_b b h ns f)

fine_f : (f : Formula) → Low f → (a r : ℕ) (ns : List Node) → a < length ns → r < length ns → Fine ns → Fine (walked f a r ns)
unfolding walked
fine_f (weak b) h a r ns ha hr f = fine_literal b h a r ns ha hr f
fine_f (strong b) h a r ns ha hr f = fine_literal b h a r ns ha hr f
fine_f (fnot g) h a r ns ha hr f =
    let ms = walked g r a ns in
    pass_more ltl_rules (not_node (last ms)) (fine_f g h r a ns hr ha f) (omega arith, named (last_f g r a ns), blank)
fine_f (fand g k) (h, i) a r ns ha hr f =
    let ms = walked g a r ns in
    let ps = walked k a r ms in
    let m = length-walk g a r ns in
    let p = length-walk k a r ms in
    pass_more ltl_rules (and_node (last ms) (last ps)) (fine_f k i a r ms (omega arith) (omega arith) (fine_f g h a r ns ha hr f))
    (omega arith, named (omega (arith, last_f g a r ns)), named (last_f k a r ms))
fine_f (until g k) (h, i) a r ns ha hr f =
    let ms = walked g a r ns in
    let ps = walked k a r ms in
    let m = length-walk g a r ns in
    let p = length-walk k a r ms in
    pass_more ltl_rules (until_node (last ms) (last ps)) (fine_f k i a r ms (omega arith) (omega arith) (fine_f g h a r ns ha hr f))
    (omega arith, named (omega (arith, last_f g a r ns)), named (last_f k a r ms))
fine_f (next g) h a r ns ha hr f =
    let ms = walked g a r ns in
    let ps = ms ▸ next_node (last ms) in
    let m = length-walk g a r ns in
    let p = length_more ms (next_node (last ms)) in
    fine_gate a r ps (omega arith) (omega arith) (omega arith)
    (pass_more ltl_rules (next_node (last ms)) (fine_f g h a r ns ha hr f) (omega arith, named (last_f g a r ns), blank))
fine_f (abort g b) (h, i) a r ns ha hr f =
    let ms = gated a r (walked_b b ns) in
    let m = length_walk_b b ns in
    let p = length-gate a r (walked_b b ns) in
    fine_f g h (last ms) r ms (omega arith) (omega arith) (fine_literal b i a r ns ha hr f)

-- ── The table ──

pub emitted-accepted : (t : List ℕ) → psl_refusal t ≡ none → emitted_size (formula_of t) ≤ ltl_rules.most → ltl_refusal (emitted (formula_of t)) ≡ none
unfolding emitted
emitted-accepted t e few =
    let f = formula_of t in
    let n = length-walk f 1 1 (true_node ∷ not_node 0 ∷ []) in
    nodes_pass ltl_rules (emitted_nodes f) (fine_f f (signals-low t e) 1 1 (true_node ∷ not_node 0 ∷ []) (omega arith) (omega arith) start) (omega arith) (omega arith)
  where
    start : Fine (true_node ∷ not_node 0 ∷ [])
    start = pass_more ltl_rules (not_node 0) (pass_more ltl_rules true_node (pass_none ltl_rules) (omega arith, blank, blank)) (omega arith, named (omega arith), blank)
