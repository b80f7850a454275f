-- The first i words are the rows of the first i nodes.
use Rattle.std.proofs.Common.{◌≡◌}
use Rattle.rows.proofs.TableLaw.{FirstRows}
use Rattle.ltl_verdict.proofs.fill_rows.Given as goal

abbrev pub invariant-loop-i : goal.invariant-loop-i
invariant-loop-i l = record {
  same_trace : l.signals.trace ≡ l.trace;
  first : FirstRows l.trace.lead.now l.trace.cycle.now l.t.numbers.now l.i l.told;
}
