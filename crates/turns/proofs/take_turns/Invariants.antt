-- The run goes on from the bytes read and printed so far.
use mathlib.Core.Path.{◌≡◌}
use mathlib.Core.Bool.{true}
use Rattle.run.specs.Inner.{goes_on}
use Rattle.turns.proofs.TurnLaw.{Moving}
use Rattle.turns.proofs.take_turns.Given as goal

abbrev pub invariant-loop : goal.invariant-loop
invariant-loop g l =
    (goes_on l.run ≡ true)
    × Moving (g.R.Read.remaining l.initial.input) (g.R.Read.remaining l.input) (g.W.Write.contents l.initial.output) (g.W.Write.contents l.output) l.run
