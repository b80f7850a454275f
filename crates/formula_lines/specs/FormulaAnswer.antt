-- What the reader of a formula line answers: all but the line's length and its shape is told of the formula spelled out.
use Rattle.std.specs.Prelude.{◌≡◌, not, List, ℕ, ◌*◌, length, leb, Result, Ok, Err}
use Rattle.std.proofs.Math.Option.{Option, none}
use Rattle.trace.specs.declared.refusal.Refusal.{Refusal}
use Rattle.table.specs.Node.{Node, numbers_of}
use Rattle.trace.specs.declared.refusal.Refusal.TheVariants.{ManyNodes, LargeSignal, ListRoom}
use Rattle.trace.specs.Refusal.{unless, or_else}
use Rattle.logic.specs.Written.{Written, spelled_out}
use Rattle.psl.specs.Check.{psl_rules}
use Rattle.formula_lines.specs.Spelling.{formula_line}
use Rattle.psl.specs.Closing.{closing_nodes, large_signal}
use Rattle.text.specs.Limits.{front}
use Rattle.text.specs.Reading.{Takes, Refuses}

-- The closing table of what a written formula is spelled out to.
abbrev pub table_nodes : Written → List Node
table_nodes w = closing_nodes (spelled_out w)

-- 19: more nodes than a PSL table may have. 20: a signal that is none.
unfoldable pub formula_limits : Written → Option Refusal
formula_limits w = unless (leb (length (table_nodes w)) psl_rules.most) ManyNodes (unless (not (large_signal (spelled_out w))) LargeSignal none)

-- Then 23: the lent list has no room for the table.
unfoldable pub formula_refusal : ℕ → Written → Option Refusal
formula_refusal room w = or_else (formula_limits w) (unless (leb (3 * length (table_nodes w)) room) ListRoom none)

-- The answer and the list m at exit, for the line s and the list l at entry: the table in front of the list, or the refusal and the list as it was.
abbrev pub FormulaAnswer : List ℕ → List ℕ → Result ℕ Refusal → List ℕ → Type 0
FormulaAnswer s l (Ok n) m =
    (w : Written) × Takes formula_line (formula_refusal (length l)) s w × (n ≡ length (table_nodes w)) × (m ≡ front (numbers_of (table_nodes w)) l)
FormulaAnswer s l (Err e) m = Refuses formula_line (formula_refusal (length l)) s e × (m ≡ l)
