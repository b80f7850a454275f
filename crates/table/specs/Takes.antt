-- What a list is as an accepted table, and what its nodes are.
use Rattle.std.specs.Prelude.{◌≡◌, List, ℕ, ◌≤◌, ◌<◌, Option as Maybe, None, Some, Result, Ok, Err}
use Rattle.std.proofs.Math.Option.{Option, some}
use Rattle.std.specs.Borrow.{Bor}
use Rattle.trace.specs.declared.refusal.Refusal.{Refusal}
use Rattle.table.specs.declared.Node.{Node as CodeNode}
use Rattle.table.specs.declared.accepted.Table.{Table}
use Rattle.table.specs.Node.{count, kind_at, left_at, right_at}
use Rattle.table.specs.declared.kind.Kind.{Ghosts}
use Rattle.table.specs.declared.kind.Checked.{Ghosts as CheckedGhosts}

-- That table, or the list's refusal.
abbrev pub Takes : {K : Type 0} {C : CheckedGhosts K} {G : Ghosts K} → (List ℕ → Option Refusal) → Bor (List ℕ) → Result (Table K C G) Refusal → Type 0
Takes refusal t (Ok a) = a.numbers ≡ t
Takes refusal t (Err x) = refusal t.now ≡ some x

-- Node i of a table, by the number of its kind: none past the end.
abbrev pub NodeIs : {K : Type 0} → (K → ℕ) → List ℕ → ℕ → Maybe (CodeNode K) → Type 0
NodeIs number t i None = count t ≤ i
NodeIs number t i (Some n) = (i < count t) × (number n.kind ≡ kind_at t i) × (n.left ≡ left_at t i) × (n.right ≡ right_at t i)
