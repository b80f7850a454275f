-- `check_ltl` passes the nodes that are not refused.
use mathlib.Core.Path.{◌≡◌}
use mathlib.Core.Option.{none}
use Rattle.trace.specs.Refusal.{lowest}
use Rattle.table.specs.Check.{refusal_at}
use Rattle.ltl.specs.Check.{ltl_rules}
use Rattle.ltl.proofs.check_ltl.Given as goal

abbrev pub invariant-loop-i : goal.invariant-loop-i
invariant-loop-i l = lowest (refusal_at ltl_rules l.t) l.i ≡ none
