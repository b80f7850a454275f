-- What holds of trace lines, each statement proved in `ClaimsLaw`.
use Rattle.std.specs.Prelude.{◌≡◌, List, ℕ, Some, Result, Err}
use Rattle.trace_lines.specs.Spelling.{TraceLists, line_of_trace}
use Rattle.trace_lines.specs.TraceAnswer.{TraceAnswer}
use Rattle.text.specs.Reading.{Breaks}
use Rattle.trace.specs.declared.refusal.Refusal.{Refusal}
use Rattle.trace.specs.declared.refusal.Refusal.TheVariants.{Shape}
use Rattle.trace.specs.Refusal.{place}
use Rattle.trace_lines.specs.declared.Lengths.{Lengths}

pub record Claims : Type 1 where
  -- No two traces have one line.
  pub one_trace : (t u : TraceLists) → line_of_trace t ≡ line_of_trace u → t ≡ u
  -- A refusal that carries a place is 18, and the line breaks there.
  pub placed : (s k l m n : List ℕ) (e : Refusal) (p : ℕ) → TraceAnswer s k l (Err e) m n → place e ≡ Some p → (e ≡ Shape p) × Breaks line_of_trace s p
  -- The reader has one answer, and leaves one content in each lent list.
  pub trace_answer : (s k l : List ℕ) (r r' : Result Lengths Refusal) (m m' n n' : List ℕ) → TraceAnswer s k l r m n → TraceAnswer s k l r' m' n'
      → (r ≡ r') × (m ≡ m') × (n ≡ n')
