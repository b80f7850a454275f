-- Each clause of the LTL meaning at its borders: p is signal 0, q is signal 1.
use Rattle.std.specs.Prelude.{List, [], ◌∷◌, ℕ}
use Rattle.logic.specs.Tree.{Ltl, ltrue, lvar, lnot, land, lor, lnext, luntil}
use Rattle.logic.specs.LtlMeaning.{LtlHoldsOn}

abbrev pub p : Ltl
p = lvar 0

abbrev pub q : Ltl
q = lvar 1

abbrev pub Fails : Ltl → List ℕ → List ℕ → Type 0
Fails x lead loop = LtlHoldsOn x lead loop → ⊥

pub record BorderFacts : Type 0 where
  pub true_holds : LtlHoldsOn ltrue (0 ∷ []) []
  pub var_set : LtlHoldsOn q (2 ∷ []) []
  pub var_clear : Fails p (2 ∷ []) []
  pub not_holds : LtlHoldsOn (lnot p) (0 ∷ []) []
  pub not_fails : Fails (lnot p) (1 ∷ []) []
  pub and_fails : Fails (land p q) (1 ∷ []) []
  pub or_holds : LtlHoldsOn (lor p q) (2 ∷ []) []
  pub next_past_end : Fails (lnext (lnot p)) (1 ∷ []) []
  pub next_round : LtlHoldsOn (lnext p) (0 ∷ []) (1 ∷ [])
  pub until_at_once : LtlHoldsOn (luntil p q) (2 ∷ []) []
  pub until_past_end : Fails (luntil ltrue (lnot p)) (1 ∷ []) []
  pub until_gap : Fails (luntil p q) (0 ∷ 2 ∷ []) []
  pub until_never : Fails (luntil p q) [] (1 ∷ [])
  pub until_round : LtlHoldsOn (luntil p q) (1 ∷ []) (2 ∷ [])
