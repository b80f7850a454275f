-- The loop keeps: the word's bytes so far stand.
use Rattle.text.proofs.ScanLaw.{Begun}
use Rattle.text.proofs.scan.Cursor.expect.Given as goal

abbrev pub invariant-loop-i : goal.invariant-loop-i
invariant-loop-i l = Begun l.word l.self.line.now l.self.at l.i
