-- What each answer of the LTL verdict says.
use Rattle.std.proofs.Math.Option.{Option}
use Rattle.std.specs.Prelude.{Bool, List, ℕ, Result}
use Rattle.trace.specs.declared.refusal.Refusal.{Refusal}
use Rattle.trace.specs.Refusal.{or_else}
use Rattle.trace.specs.Verdict.{long_refusal, empty_refusal, Judges}
use Rattle.logic.specs.LtlMeaning.{LtlHoldsOn}
use Rattle.ltl.specs.Table.{tree_of}
use Rattle.ltl.specs.Check.{ltl_refusal}

-- 11 to 15 of the table, then 9 and 16 of the trace.
unfoldable pub ltl_verdict_refusal : List ℕ → List ℕ → List ℕ → Option Refusal
ltl_verdict_refusal t lead loop = or_else (or_else (ltl_refusal t) (long_refusal lead loop)) (empty_refusal lead loop)

-- Whether the tree of the table holds on the trace, by the LTL meaning.
abbrev pub LtlJudges : List ℕ → List ℕ → List ℕ → Result Bool Refusal → Type 0
LtlJudges t lead loop v = Judges (ltl_verdict_refusal t lead loop) (LtlHoldsOn (tree_of t) lead loop) v
