-- What the inner functions of the translator promise.
use Rattle.std.specs.Prelude.{◌≡◌, List, ℕ, ◌+◌, ◌*◌, ◌≤◌, length}
use Rattle.std.proofs.lemmas.List.Edits.{sets}
use Rattle.table.specs.Node.{Node, numbers_of}
use Rattle.translate.specs.declared.writer.Writer.{Writer}

-- The writer w has the lent list l with the nodes ns stored from its start.
pub record Stored (l : List ℕ) (ns : List Node) (w : Writer) : Type 0 where
  pub count : w.nodes ≡ length ns
  pub is : w.out.now ≡ sets l 0 (numbers_of ns)

-- Behind the nodes of w there is room for k more, and their numbers fit.
pub record Room (k : ℕ) (w : Writer) : Type 0 where
  pub space : 3 * (w.nodes + k) ≤ length w.out.now
  pub fits : w.nodes + k ≤ 65536

-- From old to now the writer stored k nodes in its list as the walk `step` says, and m is the number of the last one.
pub record Walks (k : ℕ) (step : List Node → List Node) (old now : Writer) (m : ℕ) : Type 0 where
  pub last : m + 1 ≡ now.nodes
  pub more : now.nodes ≡ old.nodes + k
  pub stores : (l : List ℕ) (ns : List Node) → Stored l ns old → Stored l (step ns) now
  pub sized : length now.out.now ≡ length old.out.now
  pub same_list : now.out.ghost_name ≡ old.out.ghost_name
