-- What the writer of a table promises.
use Rattle.std.specs.Prelude.{◌≡◌, List, ℕ, ◌≤◌, ◌<◌, length}
use Rattle.table.specs.Node.{count}
use Rattle.ltl.specs.Check.{ltl_rules}
use Rattle.printing.specs.Printed.{table_text}
use Rattle.printing.specs.Limits.{most_first}

-- The text of a table is put, whatever `Put` says of putting; nothing of a table that has more nodes than a table may have.
pub record TablePut {S : Type 0} (Put : S → List ℕ → S → Type 0) (t : List ℕ) (out out' : S) : Type 0 where
  pub table : count t ≤ ltl_rules.most → Put out (table_text t) out'
  pub none : ltl_rules.most < count t → out' ≡ out
  pub short : count t ≤ ltl_rules.most → length (table_text t) ≤ most_first
