-- What a kind of node says of itself: its number, and what stands in its places.
use Rattle.std.specs.Prelude.{◌≡◌, Option as Maybe, None, Some, ℕ, ◌≤◌, ◌<◌, length, Result, Ok, Err}
use Rattle.std.proofs.Math.Option.{Option, none, some}
use Rattle.trace.specs.declared.refusal.Refusal.{Refusal}
use Rattle.table.specs.declared.kind.NoKind.{NoKind}
use Rattle.table.specs.declared.kind.Refusals.{Refusals as CodeRefusals}
use Rattle.table.specs.Rules.{Sorts, Rules}

-- The kind that a number stands for, or that it is no kind.
abbrev pub KindIs : {K : Type 0} → Rules → (K → ℕ) → ℕ → Result K NoKind → Type 0
KindIs R number n (Ok k) = (number k ≡ n) × (n < length R.kinds)
KindIs R number n (Err x) = length R.kinds ≤ n

-- The refusals of node i as the code holds them.
abbrev pub sort_refused : Option Sorts → ℕ → Maybe Refusal
sort_refused none i = None
sort_refused (some s) i = Some (s.refusal i)

abbrev pub refusals_of : Rules → ℕ → CodeRefusals
refusals_of R i =
    record {
      kind = R.refusals.kind i;
      unused = R.refusals.unused i;
      signal = R.refusals.signal i;
      operand = R.refusals.operand i;
      sort = sort_refused R.sorts i;
    }
