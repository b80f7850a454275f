-- What the exported functions answer and leave.
use Rattle.std.specs.Prelude.{◌≡◌, List, ℕ, Bool, Result, Ok, Err}
use Rattle.trace.specs.declared.refusal.Refusal.{Refusal}
use Rattle.psl_verdict.specs.Verdict.{PslJudges}
use Rattle.ltl_verdict.specs.Verdict.{LtlJudges}
use Rattle.translate.specs.Answer.{Delivers}
use Rattle.formula_lines.specs.FormulaAnswer.{FormulaAnswer}
use Rattle.trace_lines.specs.declared.Lengths.{Lengths}
use Rattle.trace_lines.specs.TraceAnswer.{TraceAnswer}
use Rattle.brancadol.specs.Coded.{verdict_code, count_code, trace_code}

-- The lent letter afterwards: the one that was found, or as it was.
abbrev pub letter_after : Result ℕ Refusal → ℕ → ℕ
letter_after (Ok x) l = x
letter_after (Err e) l = l

-- r is the code of the answer that the operation gives.
abbrev pub PslCoded : List ℕ → List ℕ → List ℕ → ℕ → Type 0
PslCoded t lead loop r = (v : Result Bool Refusal) × PslJudges t lead loop v × (r ≡ verdict_code v)

abbrev pub LtlCoded : List ℕ → List ℕ → List ℕ → ℕ → Type 0
LtlCoded t lead loop r = (v : Result Bool Refusal) × LtlJudges t lead loop v × (r ≡ verdict_code v)

-- The lent list is l at entry and m at exit.
abbrev pub TranslationCoded : List ℕ → List ℕ → ℕ → List ℕ → Type 0
TranslationCoded t l r m = (a : Result ℕ Refusal) × Delivers t l a m × (r ≡ count_code a)

abbrev pub FormulaCoded : List ℕ → List ℕ → ℕ → List ℕ → Type 0
FormulaCoded s l r m = (a : Result ℕ Refusal) × FormulaAnswer s l a m × (r ≡ count_code a)

-- The lent lists are l and m at entry, l' and m' at exit.
abbrev pub TraceCoded : List ℕ → List ℕ → List ℕ → ℕ → List ℕ → List ℕ → Type 0
TraceCoded s l m r l' m' = (a : Result Lengths Refusal) × TraceAnswer s l m a l' m' × (r ≡ trace_code a)
