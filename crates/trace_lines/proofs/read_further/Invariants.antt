-- The loop keeps what was read so far; whatever the reader finds from there on it finds from the start on.
use mathlib.Core.Path.{◌≡◌}
use Prim.Native.Nat.{◌-◌}
use lib.ListN.{length}
use Rattle.trace_lines.proofs.LettersLaw.{SoFar}
use Rattle.trace_lines.proofs.read_further.Given as goal

abbrev pub invariant-loop-cursor : goal.invariant-loop-cursor
invariant-loop-cursor l = record {
  line : l.cursor.line.now ≡ l.fn.cursor.line.now;
  size : length l.out ≡ length l.fn.out;
  read : SoFar l.fn.cursor.line.now l.fn.cursor.at l.cursor.at l.fn.count l.count l.fn.out l.out;
}

abbrev pub decreases-loop-cursor : goal.decreases-loop-cursor
decreases-loop-cursor l = length l.fn.cursor.line.now - l.cursor.at
