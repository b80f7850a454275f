-- What is proved of the PSL verdict.
use Rattle.std.specs.Prelude.{◌≡◌, Bool, List, ℕ, Result}
use Rattle.trace.specs.declared.refusal.Refusal.{Refusal}
use Rattle.psl_verdict.specs.Verdict.{PslJudges}

pub record Claims : Type 0 where
  -- For every table and every trace there is one PSL verdict.
  pub one_psl : (t lead loop : List ℕ) (v v' : Result Bool Refusal) → PslJudges t lead loop v → PslJudges t lead loop v' → v ≡ v'
