-- What a run prints. Each line ends with byte 10.
use Rattle.std.specs.Prelude.{List, [], ◌∷◌, ◌++◌, ℕ, zero, suc, Bool, true, false, Option as Maybe, None, Some, Result, Ok, Err}
use Rattle.trace.specs.declared.refusal.Refusal.{Refusal}
use Rattle.trace.specs.Refusal.{number, place}
use Rattle.table.specs.Node.{count, node_at}
use Rattle.text.specs.Text.{text}
use Rattle.text.specs.Spelling.{digits, brackets}
use Rattle.node_lines.specs.Spelling.{node_line}

-- A refusal's place, if it carries one.
abbrev pub place_part : Maybe ℕ → List (List ℕ)
place_part None = []
place_part (Some p) = digits p ∷ []

-- `(refused L R)` or `(refused L R P)`: the line's number, and the refusal's number and place.
unfoldable pub refused_text : ℕ → Refusal → List ℕ
refused_text line x = brackets (text "refused" ∷ digits line ∷ digits (number x) ∷ place_part (place x)) ++ text "\n"

-- A verdict; `none` where it is refused.
unfoldable pub verdict_text : Result Bool Refusal → List ℕ
verdict_text (Ok true) = text "yes"
verdict_text (Ok false) = text "no"
verdict_text (Err x) = text "none"

-- `(trace I psl V ltl W)`: the trace line's number and both verdicts.
unfoldable pub trace_text : ℕ → Result Bool Refusal → Result Bool Refusal → List ℕ
trace_text i v w = brackets (text "trace" ∷ digits i ∷ text "psl" ∷ verdict_text v ∷ text "ltl" ∷ verdict_text w ∷ []) ++ text "\n"

-- The lines of the first k nodes of a table.
unfoldable pub node_lines : List ℕ → ℕ → List ℕ
node_lines t zero = []
node_lines t (suc k) = node_lines t k ++ node_line k (node_at t k)

-- `(ltl S)` and the lines of all nodes.
unfoldable pub table_text : List ℕ → List ℕ
table_text t = (brackets (text "ltl" ∷ digits (count t) ∷ []) ++ text "\n") ++ node_lines t (count t)
