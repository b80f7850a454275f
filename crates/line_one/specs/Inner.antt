-- What line 1 is answered.
use Rattle.std.specs.Prelude.{List, ℕ, Result, Ok, Err}
use Rattle.trace.specs.declared.refusal.Refusal.{Refusal}
use Rattle.logic.specs.Written.{Written}
use Rattle.text.specs.Reading.{Takes, Refuses}
use Rattle.formula_lines.specs.Spelling.{formula_line}
use Rattle.formula_lines.specs.FormulaAnswer.{formula_limits}
use Rattle.answers.specs.Inner.{TablesOf}
use Rattle.line_one.specs.declared.Tables.{Tables}

-- Line 1: the tables of its formula, or its refusal.
abbrev pub FirstAnswer : List ℕ → Result Tables Refusal → Type 0
FirstAnswer line (Ok t) = (f : Written) × Takes formula_line formula_limits line f × TablesOf f t.psl.items t.ltl.items
FirstAnswer line (Err x) = Refuses formula_line formula_limits line x
