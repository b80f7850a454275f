-- So many nodes `not` were written.
use Rattle.std.proofs.Common.{Bool, List, ℕ, ◌≤◌}
use Rattle.formula_lines.specs.Inner.Writes.{full, Writes, Nodes, times_negated}
use Rattle.formula_lines.proofs.nodes.put_between.Given as goal

abbrev pub invariant-loop : goal.invariant-loop
invariant-loop l = record {
  few : l.nodes ≤ full;
  put : (b : Bool) (x : Nodes) (n : ℕ) (l₀ : List ℕ) → Writes b (x n) n l₀ l.fn.n l.fn.out → Writes b (times_negated l.counter x n) n l₀ l.nodes l.out;
}
