-- The statements of `Claims`.
use mathlib.Core.Path.{◌≡◌, ap, sym, ◌∙◌}
use mathlib.Core.List.{List}
use Prim.Native.Nat.{ℕ}
use lib.ListN.{length}
use Rattle.table.specs.Node.{numbers_of}
use Rattle.logic.specs.Written.{Written}
use Rattle.text.specs.Limits.{front}
use Rattle.text.proofs.ReadingLaw.{taken_alone, not_both, refused_alone, refused_place}
use Rattle.formula_lines.specs.Claims.{Claims}
use Rattle.formula_lines.specs.Spelling.{formula_line}
use Rattle.formula_lines.specs.FormulaAnswer.{table_nodes, formula_refusal, FormulaAnswer}
use Rattle.trace.specs.declared.refusal.Refusal.{Refusal}
use Rattle.std.specs.Prelude.{Result, Ok, Err}
use Rattle.formula_lines.proofs.FormulaLaw.{formula_injective}
use Rattle.formula_lines.proofs.LimitsLaw.{limits-accepted, refusal-unplaced}

formula_answer : (s l : List ℕ) (r r' : Result ℕ Refusal) (m m' : List ℕ) → FormulaAnswer s l r m → FormulaAnswer s l r' m' → (r ≡ r') × (m ≡ m')
formula_answer s l (Ok n) (Ok n') m m' (_, a, p, q) (_, b, p', q') =
    let d = taken_alone formula_line formula_injective (formula_refusal (length l)) a b in
    (ap (λ (z : ℕ). Ok z) (p ∙ ap (λ (w : Written). length (table_nodes w)) d ∙ sym p'), q ∙ ap (λ (w : Written). front (numbers_of (table_nodes w)) l) d ∙ sym q')
formula_answer s l (Ok n) (Err e) m m' (_, a, _, _) (b, _) = absurd (not_both formula_line formula_injective (formula_refusal (length l)) a b)
formula_answer s l (Err e) (Ok n) m m' (a, _) (_, b, _, _) = absurd (not_both formula_line formula_injective (formula_refusal (length l)) b a)
formula_answer s l (Err e) (Err e') m m' (a, p) (b, q) =
    (ap (λ (z : Refusal). Err z) (refused_alone formula_line formula_injective (formula_refusal (length l)) a b), p ∙ sym q)

pub claims : Claims
claims = record { one_formula = formula_injective; accepted = limits-accepted; placed = λ s l m e p a h. let (_, q, b) = refused_place (λ w. refusal-unplaced w (length l)) a.0 p h in (q, b); formula_answer = formula_answer }
