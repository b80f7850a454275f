-- What the LTL check answers.
use Rattle.std.specs.Prelude.{◌≡◌, List, ℕ, Result}
use Rattle.trace.specs.declared.refusal.Refusal.{Refusal}
use Rattle.table.specs.Answer.{checked}
use Rattle.ltl.specs.Check.{ltl_refusal}

-- The answer r for the table t: the first refusal that applies, or that none does.
abbrev pub LtlChecks : List ℕ → Result (Unit {0}) Refusal → Type 0
LtlChecks t r = r ≡ checked (ltl_refusal t)
