-- The loop keeps: the digits so far are a number's.
use mathlib.Core.Path.{◌≡◌}
use Prim.Native.Nat.{ℕ, ◌-◌}
use lib.ListN.{length}
use Rattle.text.specs.Inner.Scan.{Counts}
use Rattle.text.proofs.ScanLaw.{SoFar}
use Rattle.text.proofs.scan.Cursor.number.Given as goal

abbrev pub invariant-loop-more : goal.invariant-loop-more
invariant-loop-more l = record {
  line : l.rest.line.now ≡ l.self.line.now;
  read : (n : ℕ) × SoFar l.self.line.now l.self.at l.first n l.rest.at × Counts l.limit n l.value;
}

abbrev pub decreases-loop-more : goal.decreases-loop-more
decreases-loop-more l = length l.rest.line.now - l.rest.at
