-- The loop keeps: as much of the part as was read is copied.
use mathlib.Core.Path.{◌≡◌}
use lib.ListN.{take}
use lib.Seq.{sets}
use Rattle.text.proofs.copy.copy_front.Given as goal

abbrev pub invariant-loop-i : goal.invariant-loop-i
invariant-loop-i g l = l.out ≡ sets l.initial.out 0 (take l.i l.part)
