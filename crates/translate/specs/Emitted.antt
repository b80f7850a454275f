-- The emitted table: the walk over a formula that appends LTL nodes, and the size S of what it leaves.
use Rattle.std.specs.Prelude.{ℕ, ◌+◌, List, [], ◌∷◌, get_or}
use Rattle.table.specs.Node.{Node, numbers_of, ◌▸◌, last}
use Rattle.logic.specs.Formula.{BoolExpr, btrue, var, bnot, band, Formula, weak, strong, fnot, fand, next, until, abort}
use Rattle.psl.specs.Size.{weigh}
use Rattle.ltl.specs.Table.{true_node, var_node, not_node, and_node, or_node, next_node, until_node}

-- Each walk appends to the nodes that are there; its result is the last node then. A Boolean: its operands, then one node.
unfoldable pub walked_b : BoolExpr → List Node → List Node
walked_b btrue ns = ns ▸ true_node
walked_b (var k) ns = ns ▸ var_node k
walked_b (bnot b) ns = let ms = walked_b b ns in ms ▸ not_node (last ms)
walked_b (band b c) ns = let ms = walked_b b ns in let ps = walked_b c ms in ps ▸ and_node (last ms) (last ps)

-- Behind a result: not r; and (the result, that); or (a, that).
abbrev pub gated : ℕ → ℕ → List Node → List Node
gated a r ns = let ms = ns ▸ not_node r in let ps = ms ▸ and_node (last ns) (last ms) in ps ▸ or_node a (last ps)

-- A formula, with the numbers of accept a and reject r.
unfoldable pub walked : Formula → ℕ → ℕ → List Node → List Node
walked (weak b) a r ns = gated a r (walked_b b ns)
walked (strong b) a r ns = gated a r (walked_b b ns)
walked (fnot f) a r ns = let ms = walked f r a ns in ms ▸ not_node (last ms)
walked (fand f g) a r ns = let ms = walked f a r ns in let ps = walked g a r ms in ps ▸ and_node (last ms) (last ps)
walked (until f g) a r ns = let ms = walked f a r ns in let ps = walked g a r ms in ps ▸ until_node (last ms) (last ps)
walked (next f) a r ns = let ms = walked f a r ns in gated a r (ms ▸ next_node (last ms))
walked (abort f b) a r ns = let ms = gated a r (walked_b b ns) in walked f (last ms) r ms

-- Node 0 is true, node 1 is not 0; then the walk, with a = 1 and r = 1.
abbrev pub emitted_nodes : Formula → List Node
emitted_nodes f = walked f 1 1 (true_node ∷ not_node 0 ∷ [])

unfoldable pub emitted : Formula → List ℕ
emitted f = numbers_of (emitted_nodes f)

-- How many nodes each kind of a PSL node, from 0 on, adds to the emitted table: a Boolean, not, and, until 1; weak, strong, abort 3; next 4.
unfoldable pub added_by : ℕ → ℕ
added_by k = get_or (1 ∷ 1 ∷ 1 ∷ 1 ∷ 3 ∷ 3 ∷ 1 ∷ 1 ∷ 4 ∷ 1 ∷ 3 ∷ []) k 1

-- The size S.
abbrev pub emitted_size : Formula → ℕ
emitted_size f = 2 + weigh added_by f

-- The largest size of a formula of at most 1,024 nodes.
abbrev pub most_emitted : ℕ
most_emitted = 4094
