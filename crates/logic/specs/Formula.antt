-- PSL formulas.
use Rattle.std.specs.Prelude.{ℕ}

pub data BoolExpr : Type 0 where
  btrue : BoolExpr
  var : ℕ → BoolExpr
  bnot : BoolExpr → BoolExpr
  band : BoolExpr → BoolExpr → BoolExpr

pub data Formula : Type 0 where
  weak strong : BoolExpr → Formula
  fnot : Formula → Formula
  fand : Formula → Formula → Formula
  next : Formula → Formula
  until : Formula → Formula → Formula
  abort : Formula → BoolExpr → Formula
