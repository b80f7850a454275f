-- What an accepted PSL table gives to those that walk over it: its size and its root.
use Prim.Native.Nat.{ℕ, ◌*◌, ◌-◌, ◌≤◌, ◌<◌}
use mathlib.Core.Path.{◌≡◌}
use mathlib.Core.Option.{none}
use mathlib.Core.List.{List}
use native.Mathlib.Omega.{arith}
use lib.ListN.{length}
use borrow.Author.Tests.{ltb-false}
use Rattle.table.specs.Node.{count, kind_at}
use Rattle.table.specs.Check.{table_refusal}
use Rattle.table.proofs.CheckLaw.{table-sized}
use Rattle.psl.specs.Check.{psl_rules, psl_refusal}
use Rattle.psl.proofs.CheckLaw.{psl-table, psl-root}

module _ (t : List ℕ) (fine : psl_refusal t ≡ none) where
  u : table_refusal psl_rules t ≡ none
  u = psl-table t fine

  pub some-node : 0 < count t
  some-node = (table-sized psl_rules t u).some

  pub most-nodes : count t ≤ psl_rules.most
  most-nodes = (table-sized psl_rules t u).low

  pub in_threes : 3 * count t ≡ length t
  in_threes = omega (arith, (table-sized psl_rules t u).threes)

  pub root-formula : 4 ≤ kind_at t (count t - 1)
  root-formula = ltb-false (kind_at t (count t - 1)) 4 (psl-root t fine)
