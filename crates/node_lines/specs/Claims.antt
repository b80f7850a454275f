-- What holds of node lines, each statement proved in `ClaimsLaw`.
use Rattle.trace.specs.declared.refusal.Refusal.{Refusal}
use Rattle.std.specs.Prelude.{◌≡◌, List, ℕ, ◌<◌, length, Some, Result}
use Rattle.std.proofs.Math.Option.{none, some}
use Rattle.trace.specs.Refusal.{place}
use Rattle.table.specs.Node.{Node}
use Rattle.ltl.specs.Check.{ltl_rules}
use Rattle.node_lines.specs.Spelling.{node_line}
use Rattle.node_lines.specs.NodeAnswer.{node_fault, node_answer, node_list}

pub record Claims : Type 1 where
  -- No two nodes that are no fault have one line.
  pub one_node : (i j : ℕ) (m n : Node) → node_fault i m ≡ none → node_fault j n ≡ none → node_line i m ≡ node_line j n → (i ≡ j) × (m ≡ n)
  -- A fault that carries a node carries its own number, which is that of some node.
  pub own : (i j : ℕ) (n : Node) (x : Refusal) → node_fault i n ≡ some x → place x ≡ Some j → (i ≡ j) × (i < ltl_rules.most)
  -- The writer has one answer, and leaves one content in the lent list.
  pub one_node_answer : (i : ℕ) (n : Node) (l : List ℕ) (r r' : Result ℕ Refusal) (m m' : List ℕ)
      → (r ≡ node_answer i n (length l)) × (m ≡ node_list r (node_line i n) l) → (r' ≡ node_answer i n (length l)) × (m' ≡ node_list r' (node_line i n) l)
      → (r ≡ r') × (m ≡ m')
