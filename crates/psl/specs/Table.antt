-- The formula that a PSL table stands for.
use Rattle.std.specs.Prelude.{ℕ, List, [], ◌∷◌, get_or}
use Rattle.table.specs.Node.{Node, node, root}
use Rattle.logic.specs.Formula.{BoolExpr, btrue, var, bnot, band, Formula, weak, strong, fnot, fand, next, until, abort}

-- What a node stands for: a Boolean or a formula, by its sort.
pub data Part : Type 0 where
  boolean : BoolExpr → Part
  formula : Formula → Part

-- An operand of the wrong sort, which no accepted table has, is read as true.
abbrev pub as_boolean : Part → BoolExpr
as_boolean (boolean b) = b
as_boolean (formula f) = btrue

abbrev pub as_formula : Part → Formula
as_formula (boolean b) = weak btrue
as_formula (formula f) = f

-- What each kind stands for, kind by kind from 0 on, with the parts that stand under its operands' numbers.
unfoldable pub part_of : (ℕ → Part) → Node → Part
part_of x (node k l r) =
    get_or (
    boolean btrue  -- 0 true
    ∷ boolean (var l)  -- 1 var
    ∷ boolean (bnot (as_boolean (x l)))  -- 2 bnot
    ∷ boolean (band (as_boolean (x l)) (as_boolean (x r)))  -- 3 band
    ∷ formula (weak (as_boolean (x l)))  -- 4 weak
    ∷ formula (strong (as_boolean (x l)))  -- 5 strong
    ∷ formula (fnot (as_formula (x l)))  -- 6 not
    ∷ formula (fand (as_formula (x l)) (as_formula (x r)))  -- 7 and
    ∷ formula (next (as_formula (x l)))  -- 8 next
    ∷ formula (until (as_formula (x l)) (as_formula (x r)))  -- 9 until
    ∷ formula (abort (as_formula (x l)) (as_boolean (x r)))  -- 10 abort
    ∷ []
    ) k (boolean btrue)

-- The kind of the node that stands for a Boolean or a formula.
abbrev pub kind_of_boolean : BoolExpr → ℕ
kind_of_boolean btrue = 0
kind_of_boolean (var k) = 1
kind_of_boolean (bnot b) = 2
kind_of_boolean (band b c) = 3

abbrev pub kind_of_formula : Formula → ℕ
kind_of_formula (weak b) = 4
kind_of_formula (strong b) = 5
kind_of_formula (fnot f) = 6
kind_of_formula (fand f g) = 7
kind_of_formula (next f) = 8
kind_of_formula (until f g) = 9
kind_of_formula (abort f b) = 10

-- The formula of a table is its root's. A table that ends with a Boolean, as the front of an accepted one may, has that Boolean.
unfoldable pub formula_of : List ℕ → Formula
formula_of t = as_formula (root (boolean btrue) part_of t)

unfoldable pub boolean_of : List ℕ → BoolExpr
boolean_of t = as_boolean (root (boolean btrue) part_of t)
