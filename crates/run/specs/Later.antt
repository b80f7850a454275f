-- What the functions of a later line promise.
use Rattle.std.specs.Prelude.{◌≡◌, List, ◌++◌, ℕ, ◌-◌, take, Result}
use Rattle.trace.specs.declared.refusal.Refusal.{Refusal}
use Rattle.logic.specs.Written.{Written, spelled_out}
use Rattle.psl_verdict.specs.Verdict.{PslJudges}
use Rattle.ltl_verdict.specs.Verdict.{LtlJudges}
use Rattle.answers.specs.Answer.{LaterAnswer, later_text}
use Rattle.answers.specs.Inner.{TablesOf, PlacedWithin}
use Rattle.answers.specs.declared.Verdicts.{Verdicts}
use Rattle.line_one.specs.declared.Tables.{Tables}
use Rattle.run.specs.Bounds.{gathering_room}

-- Both verdicts on a trace, by the PSL and by the LTL table.
abbrev pub BothJudged : List ℕ → List ℕ → List ℕ → List ℕ → Verdicts → Type 0
BothJudged psl ltl lead cycle v = PslJudges psl lead cycle v.psl × LtlJudges ltl lead cycle v.ltl

-- A later line of a number: its answer, and the answer's text behind what was gathered, as far as it has room.
pub record LaterDone (line : List ℕ) (t : Tables) (number : ℕ) (out out' : List ℕ) : Type 0 where
  pub answer : Result Verdicts Refusal
  pub answers : (f : Written) → TablesOf f t.psl.items t.ltl.items → LaterAnswer (spelled_out f) line answer
  pub within : PlacedWithin answer
  pub writes : out' ≡ take gathering_room (out ++ later_text (number - 1) answer)
