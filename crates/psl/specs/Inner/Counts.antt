-- The counts that the check keeps.
use Rattle.std.specs.Prelude.{◌≡◌, true, List, ℕ, ◌+◌, ◌≤◌, ◌<◌, length, get_or}
use Rattle.std.proofs.Math.Option.{none}
use Rattle.table.specs.Node.{count}
use Rattle.table.specs.Rules.{Use}
use Rattle.table.specs.Check.{length_fits, refusal_at}
use Rattle.trace.specs.Refusal.{lowest}
use Rattle.table.specs.Inner.Place.{operand_or}
use Rattle.psl.specs.Check.{psl_rules, names, names_at, total}

-- d is c with the uses by a place that holds n added.
pub record Counted (u : Use) (n : ℕ) (c d : List ℕ) : Type 0 where
  pub same : length d ≡ length c
  pub more : (j : ℕ) → j < length c → get_or d j 0 ≡ get_or c j 0 + names u n j

-- What a place that holds n names is counted in c, where there is room for one more.
pub record CountRoom (u : Use) (n : ℕ) (c : List ℕ) : Type 0 where
  pub inside : operand_or u n 0 < length c
  pub room : get_or c (operand_or u n 0) 0 < 65535

-- A table of the right length has at most n nodes, and n is no more than there may be.
pub record RoomForNodes (t : List ℕ) (n : ℕ) : Type 0 where
  pub right_length : length_fits psl_rules.most (length t) ≡ true
  pub for_nodes : count t ≤ n
  pub few : n ≤ psl_rules.most

-- Of a table of the right length whose first i nodes are not refused, c holds how often these name each node.
pub record Tallied (t : List ℕ) (i : ℕ) (c : List ℕ) : Type 0 where
  pub right_length : length_fits psl_rules.most (length t) ≡ true
  pub passed : lowest (refusal_at psl_rules t) i ≡ none
  pub for_nodes : count t ≤ length c
  pub counts : (j : ℕ) → j < length c → get_or c j 0 ≡ total (names_at t j) i
