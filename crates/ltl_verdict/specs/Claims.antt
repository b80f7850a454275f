-- What is proved of the LTL verdict.
use Rattle.std.specs.Prelude.{◌≡◌, Bool, List, ℕ, Result}
use Rattle.trace.specs.declared.refusal.Refusal.{Refusal}
use Rattle.ltl_verdict.specs.Verdict.{LtlJudges}

pub record Claims : Type 0 where
  -- For every table and every trace there is one LTL verdict.
  pub one_ltl : (t lead loop : List ℕ) (v v' : Result Bool Refusal) → LtlJudges t lead loop v → LtlJudges t lead loop v' → v ≡ v'
