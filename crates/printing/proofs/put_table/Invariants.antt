-- The head, then a line a node.
use Rattle.printing.proofs.PrintedLaw.{Printed}
use Rattle.printing.proofs.put_table.Given as goal

abbrev pub invariant-loop-i : goal.invariant-loop-i
invariant-loop-i g l = Printed g.S.Sink.Put l.t l.fn.out l.i l.out
