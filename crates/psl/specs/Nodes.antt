-- What a node of an accepted table stands for, and what it is made of.
use Rattle.std.specs.Prelude.{◌≡◌, List, ℕ, ◌+◌, ◌*◌, ◌-◌, ◌<◌, length, take}
use Rattle.logic.specs.Letter.{signals}
use Rattle.logic.specs.Formula.{BoolExpr, btrue, var, bnot, band, Formula, weak, strong, fnot, fand, next, until, abort}
use Rattle.table.specs.Node.{count, left_at, right_at}
use Rattle.psl.specs.Table.{boolean_of, formula_of}
use Rattle.psl.specs.declared.node.BooleanNode.{BooleanNode}
use Rattle.psl.specs.declared.node.FormulaNode.{FormulaNode}
use Rattle.psl.specs.declared.node.BooleanParts.{BooleanParts}
use Rattle.psl.specs.declared.node.BooleanParts.TheVariants.{True, Var, Bnot, Band}
use Rattle.psl.specs.declared.node.FormulaParts.{FormulaParts}
use Rattle.psl.specs.declared.node.FormulaParts.TheVariants.{Weak, Strong, Not, And, Next, Until, Abort}

abbrev pub boolean : BooleanNode → BoolExpr
boolean n = boolean_of n.front.now

abbrev pub formula : FormulaNode → Formula
formula n = formula_of n.front.now

-- u is the front of t up to node j, and is shorter.
pub record FrontTo (t : List ℕ) (j : ℕ) (u : List ℕ) : Type 0 where
  pub is : u ≡ take (3 * j + 3) t
  pub shorter : length u < length t

-- It ends with the left operand of t's last node, or with the right one.
abbrev pub Left : List ℕ → List ℕ → Type 0
Left t u = FrontTo t (left_at t (count t - 1)) u

abbrev pub Right : List ℕ → List ℕ → Type 0
Right t u = FrontTo t (right_at t (count t - 1)) u

-- Those parts are the operands of node n, and make its Boolean or its formula.
abbrev pub BooleanOf : BooleanNode → BooleanParts → Type 0
BooleanOf n True = boolean n ≡ btrue
BooleanOf n (Var k) = (k < signals) × (boolean n ≡ var k)
BooleanOf n (Bnot x) = Left n.front.now x.front.now × (boolean n ≡ bnot (boolean x))
BooleanOf n (Band x y) = Left n.front.now x.front.now × Right n.front.now y.front.now × (boolean n ≡ band (boolean x) (boolean y))

abbrev pub FormulaOf : FormulaNode → FormulaParts → Type 0
FormulaOf n (Weak x) = Left n.front.now x.front.now × (formula n ≡ weak (boolean x))
FormulaOf n (Strong x) = Left n.front.now x.front.now × (formula n ≡ strong (boolean x))
FormulaOf n (Not x) = Left n.front.now x.front.now × (formula n ≡ fnot (formula x))
FormulaOf n (And x y) = Left n.front.now x.front.now × Right n.front.now y.front.now × (formula n ≡ fand (formula x) (formula y))
FormulaOf n (Next x) = Left n.front.now x.front.now × (formula n ≡ next (formula x))
FormulaOf n (Until x y) = Left n.front.now x.front.now × Right n.front.now y.front.now × (formula n ≡ until (formula x) (formula y))
FormulaOf n (Abort x y) = Left n.front.now x.front.now × Right n.front.now y.front.now × (formula n ≡ abort (formula x) (boolean y))
