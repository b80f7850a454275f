-- `count_uses` passes the nodes that are not refused and counts their operands.
use mathlib.Core.Path.{◌≡◌}
use lib.ListN.{length}
use Rattle.psl.specs.Inner.Counts.{Tallied}
use Rattle.psl.proofs.count_uses.Given as goal

abbrev pub invariant-loop-i : goal.invariant-loop-i
invariant-loop-i l = (length l.c ≡ length l.initial.c) × Tallied l.t l.i l.c
