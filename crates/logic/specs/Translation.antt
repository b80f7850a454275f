-- The translation as a tree (document 002, figures 1 and 2), with the trees of accept and reject.
use Rattle.logic.specs.Formula.{BoolExpr, btrue, var, bnot, band, Formula, weak, strong, fnot, fand, next, until, abort}
use Rattle.logic.specs.Tree.{Ltl, ltrue, lvar, lnot, land, lor, lnext, luntil}

abbrev pub tree_b : BoolExpr → Ltl
tree_b btrue = ltrue
tree_b (var k) = lvar k
tree_b (bnot b) = lnot (tree_b b)
tree_b (band b c) = land (tree_b b) (tree_b c)

abbrev pub translated : Formula → Ltl → Ltl → Ltl
translated (weak b) a r = lor a (land (tree_b b) (lnot r))
translated (strong b) a r = lor a (land (tree_b b) (lnot r))
translated (fnot f) a r = lnot (translated f r a)
translated (fand f g) a r = land (translated f a r) (translated g a r)
translated (next f) a r = lor a (land (lnext (translated f a r)) (lnot r))
translated (until f g) a r = luntil (translated f a r) (translated g a r)
translated (abort f b) a r = translated f (lor a (land (tree_b b) (lnot r))) r

-- Nothing is accepted or rejected at the root.
abbrev pub falsum : Ltl
falsum = lnot ltrue

abbrev pub translation : Formula → Ltl
translation f = translated f falsum falsum
