-- How many bytes the printed texts have, each statement proved in `ClaimsLaw`.
use Rattle.std.specs.Prelude.{◌≡◌, ℕ, ◌^◌, ◌<◌, ◌≤◌, List, length, Bool, Some, Result}
use Rattle.std.proofs.Math.Option.{none}
use Rattle.trace.specs.declared.refusal.Refusal.{Refusal}
use Rattle.trace.specs.Refusal.{place}
use Rattle.ltl.specs.Check.{ltl_refusal}
use Rattle.printing.specs.Printed.{refused_text, trace_text, table_text}
use Rattle.printing.specs.Limits.{most_first, most_later}

pub record Claims : Type 0 where
  -- A refusal, where its place fits 64 bits, and a trace's verdicts, where the line's number does.
  pub refused_short : (line : ℕ) (x : Refusal) → line < 2 ^ 64 → ((p : ℕ) → place x ≡ Some p → p < 2 ^ 64) → length (refused_text line x) ≤ most_later
  pub trace_short : (i : ℕ) (v w : Result Bool Refusal) → i < 2 ^ 64 → length (trace_text i v w) ≤ most_later
  -- An accepted table.
  pub table_short : (t : List ℕ) → ltl_refusal t ≡ none → length (table_text t) ≤ most_first
