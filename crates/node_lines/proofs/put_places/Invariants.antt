-- The loop keeps: with what is still to come, the whole is put.
use lib.ListN.{drop}
use Rattle.node_lines.specs.Inner.Writer.{line_end}
use Rattle.node_lines.proofs.put_places.Given as goal

abbrev pub invariant-loop-n : goal.invariant-loop-n
invariant-loop-n g l = (b : _) → g.S.Sink.Put l.out (line_end (drop l.n-index l.numbers)) b → g.S.Sink.Put l.initial.out (line_end l.numbers) b
