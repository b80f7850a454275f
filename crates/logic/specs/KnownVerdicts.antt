-- The sentences with known verdicts, c1 to c12: p is signal 0, q is signal 1.
use Rattle.std.specs.Prelude.{List, [], ◌∷◌, ℕ}
use Rattle.logic.specs.Formula.{BoolExpr, btrue, var, bnot, Formula, weak, strong, fnot, next, until, abort}
use Rattle.logic.specs.Meaning.{HoldsOn}

abbrev pub p : BoolExpr
p = var 0

abbrev pub q : BoolExpr
q = var 1

abbrev pub Yes : Formula → List ℕ → List ℕ → Type 0
Yes f lead loop = HoldsOn f lead loop

abbrev pub No : Formula → List ℕ → List ℕ → Type 0
No f lead loop = HoldsOn f lead loop → ⊥

pub record KnownVerdicts : Type 0 where
  pub c1 : Yes (weak p) [] []
  pub c2 : No (strong p) [] []
  pub c3 : No (fnot (weak p)) [] []
  pub c4 : Yes (weak (bnot p)) [] []
  pub c5 : No (next (weak btrue)) (0 ∷ []) []
  pub c6 : Yes (fnot (next (fnot (weak p)))) (0 ∷ []) []
  pub c7 : Yes (until (strong btrue) (strong p)) (0 ∷ []) (1 ∷ [])
  pub c8 : No (until (strong btrue) (strong p)) [] (0 ∷ [])
  pub c9 : Yes (abort (strong (bnot btrue)) btrue) (0 ∷ []) []
  pub c10 : No (fnot (abort (next (strong q)) p)) (1 ∷ []) []
  pub c11 : Yes (abort (fnot (abort (strong btrue) p)) p) (1 ∷ []) []
  pub c12 : Yes (next (until (strong p) (strong q))) [] (2 ∷ 1 ∷ [])
