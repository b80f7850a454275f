-- What a run means: from the bytes of its input to the bytes of its output.
use Rattle.std.specs.Prelude.{◌≡◌, ◌⊎◌, List, [], ◌∷◌, ◌++◌, ℕ, suc, Result}
use Rattle.trace.specs.declared.refusal.Refusal.{Refusal}
use Rattle.logic.specs.Formula.{Formula}
use Rattle.logic.specs.Written.{Written, spelled_out}
use Rattle.translate.specs.Emitted.{emitted}
use Rattle.formula_lines.specs.Spelling.{formula_line}
use Rattle.text.specs.Reading.{Takes, Refuses}
use Rattle.formula_lines.specs.FormulaAnswer.{formula_limits}
use Rattle.answers.specs.Input.{input_lines}
use Rattle.printing.specs.Printed.{refused_text, table_text}
use Rattle.answers.specs.Answer.{LaterAnswer, later_text}
use Rattle.answers.specs.declared.Verdicts.{Verdicts}

-- ── Trace lines ──

-- Trace lines, of which the first has number i, print `out`.
abbrev pub PrintsTraces : Formula → ℕ → List (List ℕ) → List ℕ → Type 0
PrintsTraces f i [] out = out ≡ []
PrintsTraces f i (line ∷ ls) out =
    (r : Result Verdicts Refusal) × (rest : List ℕ) × LaterAnswer f line r × (out ≡ later_text i r ++ rest) × PrintsTraces f (suc i) ls rest

-- ── All lines ──

-- Line 1 spells a formula within the limits, and the emitted table of what it is spelled out to is printed, then the answers to the trace lines; or
-- line 1 is refused, and its refusal is all.
abbrev pub Prints : List (List ℕ) → List ℕ → Type 0
Prints [] out = ⊥
Prints (line ∷ ls) out =
    ((f : Written) × (rest : List ℕ) × Takes formula_line formula_limits line f × (out ≡ table_text (emitted (spelled_out f)) ++ rest)
    × PrintsTraces (spelled_out f) 1 ls rest)
    ⊎ ((x : Refusal) × Refuses formula_line formula_limits line x × (out ≡ refused_text 1 x))

-- The run on an input prints `out`.
abbrev pub Runs : List ℕ → List ℕ → Type 0
Runs input out = Prints (input_lines input) out
