-- The answer of a check.
use Rattle.std.specs.Prelude.{Result, Ok, Err}
use Rattle.std.proofs.Math.Option.{Option, none, some}
use Rattle.trace.specs.declared.refusal.Refusal.{Refusal}

-- The first refusal that applies, if one does, decides.
abbrev pub checked : Option Refusal → Result (Unit {0}) Refusal
checked none = Ok tt
checked (some x) = Err x
