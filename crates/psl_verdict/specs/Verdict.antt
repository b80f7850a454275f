-- What each answer of the PSL verdict says.
use Rattle.std.proofs.Math.Option.{Option}
use Rattle.std.specs.Prelude.{Bool, List, ℕ, Result}
use Rattle.trace.specs.declared.refusal.Refusal.{Refusal}
use Rattle.trace.specs.Refusal.{or_else}
use Rattle.trace.specs.Verdict.{long_refusal, Judges}
use Rattle.logic.specs.Meaning.{HoldsOn}
use Rattle.psl.specs.Table.{formula_of}
use Rattle.psl.specs.Check.{psl_refusal}

-- 1 to 8 of the table, then 9 of the trace.
unfoldable pub psl_verdict_refusal : List ℕ → List ℕ → List ℕ → Option Refusal
psl_verdict_refusal t lead loop = or_else (psl_refusal t) (long_refusal lead loop)

-- Whether the formula of the table holds on the trace, by the PSL meaning.
abbrev pub PslJudges : List ℕ → List ℕ → List ℕ → Result Bool Refusal → Type 0
PslJudges t lead loop v = Judges (psl_verdict_refusal t lead loop) (HoldsOn (formula_of t) lead loop) v
