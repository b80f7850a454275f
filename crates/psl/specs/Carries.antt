-- The node that a refusal of the PSL check carries.
use Rattle.std.specs.Prelude.{◌≡◌, List, ℕ, ◌+◌, ◌-◌}
use Rattle.std.proofs.Math.Option.{some}
use Rattle.trace.specs.declared.refusal.Refusal.{Refusal}
use Rattle.trace.specs.Refusal.{IsLowest}
use Rattle.table.specs.Node.{count}
use Rattle.table.specs.Check.{refusal_at}
use Rattle.psl.specs.Check.{psl_rules, use_refusal, root_refusal}

-- Of all nodes the lowest that fails a test of a node, by 2 to 6; of all but the last the lowest that is not an operand once, by 7; or the last, by 8.
pub data Carries (t : List ℕ) (x : Refusal) (i : ℕ) : Type 0 where
  by_node : IsLowest (refusal_at psl_rules t) (count t) x i → Carries t x i
  by_use : IsLowest (use_refusal t) (count t - 1) x i → Carries t x i
  by_root : root_refusal t ≡ some x → i + 1 ≡ count t → Carries t x i
