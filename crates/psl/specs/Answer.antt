-- What the PSL check answers.
use Rattle.std.specs.Prelude.{◌≡◌, List, ℕ, Result}
use Rattle.trace.specs.declared.refusal.Refusal.{Refusal}
use Rattle.table.specs.Answer.{checked}
use Rattle.psl.specs.Check.{psl_refusal}

-- The answer r for the table t: the first refusal that applies, or that none does.
abbrev pub PslChecks : List ℕ → Result (Unit {0}) Refusal → Type 0
PslChecks t r = r ≡ checked (psl_refusal t)
