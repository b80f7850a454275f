-- The closing table of a formula: its nodes in the order in which their forms close when the formula is written.
use Rattle.std.specs.Prelude.{Bool, false, ◌||◌, List, [], leb}
use Rattle.logic.specs.Letter.{signals}
use Rattle.table.specs.Node.{Node, node, ◌▸◌, last}
use Rattle.psl.specs.Table.{kind_of_boolean, kind_of_formula}
use Rattle.logic.specs.Formula.{BoolExpr, btrue, var, bnot, band, Formula, weak, strong, fnot, fand, next, until, abort}

-- Each appends to the nodes that are there; its own node is the last then.
unfoldable pub nodes_b : BoolExpr → List Node → List Node
nodes_b btrue ns = ns ▸ node (kind_of_boolean btrue) 0 0
nodes_b (var k) ns = ns ▸ node (kind_of_boolean (var k)) k 0
nodes_b (bnot b) ns = let ms = nodes_b b ns in ms ▸ node (kind_of_boolean (bnot b)) (last ms) 0
nodes_b (band b c) ns = let ms = nodes_b b ns in let ps = nodes_b c ms in ps ▸ node (kind_of_boolean (band b c)) (last ms) (last ps)

unfoldable pub nodes : Formula → List Node → List Node
nodes (weak b) ns = let ms = nodes_b b ns in ms ▸ node (kind_of_formula (weak b)) (last ms) 0
nodes (strong b) ns = let ms = nodes_b b ns in ms ▸ node (kind_of_formula (strong b)) (last ms) 0
nodes (fnot f) ns = let ms = nodes f ns in ms ▸ node (kind_of_formula (fnot f)) (last ms) 0
nodes (fand f g) ns = let ms = nodes f ns in let ps = nodes g ms in ps ▸ node (kind_of_formula (fand f g)) (last ms) (last ps)
nodes (next f) ns = let ms = nodes f ns in ms ▸ node (kind_of_formula (next f)) (last ms) 0
nodes (until f g) ns = let ms = nodes f ns in let ps = nodes g ms in ps ▸ node (kind_of_formula (until f g)) (last ms) (last ps)
nodes (abort f b) ns = let ms = nodes f ns in let ps = nodes_b b ms in ps ▸ node (kind_of_formula (abort f b)) (last ms) (last ps)

-- The nodes of a formula's closing table.
abbrev pub closing_nodes : Formula → List Node
closing_nodes f = nodes f []

-- Some variable's signal is not below `signals`.
unfoldable pub large_signal_b : BoolExpr → Bool
large_signal_b btrue = false
large_signal_b (var k) = leb signals k
large_signal_b (bnot b) = large_signal_b b
large_signal_b (band b c) = large_signal_b b || large_signal_b c

unfoldable pub large_signal : Formula → Bool
large_signal (weak b) = large_signal_b b
large_signal (strong b) = large_signal_b b
large_signal (fnot f) = large_signal f
large_signal (fand f g) = large_signal f || large_signal g
large_signal (next f) = large_signal f
large_signal (until f g) = large_signal f || large_signal g
large_signal (abort f b) = large_signal f || large_signal_b b
