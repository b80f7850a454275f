-- LTL formulas as trees; a table may share what a tree repeats.
use Rattle.std.specs.Prelude.{ℕ}

pub data Ltl : Type 0 where
  ltrue : Ltl
  lvar : ℕ → Ltl
  lnot : Ltl → Ltl
  land lor : Ltl → Ltl → Ltl
  lnext : Ltl → Ltl
  luntil : Ltl → Ltl → Ltl
