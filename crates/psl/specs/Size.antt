-- Sums over the nodes of a formula.
use Rattle.std.specs.Prelude.{ℕ, ◌+◌}
use Rattle.psl.specs.Table.{kind_of_boolean, kind_of_formula}
use Rattle.logic.specs.Formula.{BoolExpr, btrue, var, bnot, band, Formula, weak, strong, fnot, fand, next, until, abort}

-- The sum, over all nodes of a formula, of a weight for each kind number: with weight 1, how many nodes there are.
unfoldable pub weigh_b : (ℕ → ℕ) → BoolExpr → ℕ
weigh_b w btrue = w (kind_of_boolean btrue)
weigh_b w (var k) = w (kind_of_boolean (var k))
weigh_b w (bnot b) = w (kind_of_boolean (bnot b)) + weigh_b w b
weigh_b w (band b c) = w (kind_of_boolean (band b c)) + weigh_b w b + weigh_b w c

unfoldable pub weigh : (ℕ → ℕ) → Formula → ℕ
weigh w (weak b) = w (kind_of_formula (weak b)) + weigh_b w b
weigh w (strong b) = w (kind_of_formula (strong b)) + weigh_b w b
weigh w (fnot f) = w (kind_of_formula (fnot f)) + weigh w f
weigh w (fand f g) = w (kind_of_formula (fand f g)) + weigh w f + weigh w g
weigh w (next f) = w (kind_of_formula (next f)) + weigh w f
weigh w (until f g) = w (kind_of_formula (until f g)) + weigh w f + weigh w g
weigh w (abort f b) = w (kind_of_formula (abort f b)) + weigh w f + weigh_b w b

abbrev pub node_count : Formula → ℕ
node_count f = weigh (λ k. 1) f
