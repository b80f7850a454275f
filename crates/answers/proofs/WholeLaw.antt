-- Laws of what a run prints: the bytes gathered, what a line that is kept in part is answered, and what one line more prints.
use Rattle.std.specs.Prelude.{Result, Ok, Err}
use mathlib.Core.Path.{◌≡◌, refl, ap, sym, subst, ◌∙◌}
use mathlib.Core.Logic.{inr}
use mathlib.Core.List.{List, [], ◌∷◌, ◌++◌, append_assoc, append-nil}
use Prim.Native.Nat.{ℕ, suc, ◌+◌, ◌<◌}
use native.Mathlib.Omega.{arith}
use lib.ListN.{length, take}
use Rattle.trace.specs.declared.refusal.Refusal.{Refusal}
use Rattle.table.specs.Node.{◌▸◌}
use Rattle.logic.specs.Formula.{Formula}
use Rattle.formula_lines.specs.Spelling.{formula_line}
use Rattle.formula_lines.specs.FormulaAnswer.{formula_limits}
use Rattle.text.specs.Reading.{Refuses}
use Rattle.text.proofs.ReadingLaw.{takes-cut, refuses-cut}
use Rattle.text.proofs.WriterLaw.{put_whole}
use Rattle.printing.specs.Printed.{refused_text}
use Rattle.answers.specs.Answer.{LaterAnswer, later_text}
use Rattle.answers.specs.Input.{ended_lines}
use Rattle.answers.specs.Whole.{PrintsTraces, Prints, Runs}
use Rattle.answers.specs.Inner.{kept_bytes}
use Rattle.answers.specs.declared.Verdicts.{Verdicts}
use Rattle.answers.proofs.CutLaw.{first_line_stays}

-- ── The gathered bytes ──

-- What was put stands behind what was printed and gathered before.
pub printed : (n : ℕ) (done l w m : List ℕ) → m ≡ take n (l ++ w) → length m < n → done ++ m ≡ (done ++ l) ++ w
printed n done l w m e h = ap (λ (x : List ℕ). done ++ x) (put_whole n l w m e h) ∙ sym (append_assoc done l w)

-- ── Lines ──

-- A line's answer rests on the bytes that are kept.
pub later_kept : (f : Formula) (o : List ℕ) (a : Result Verdicts Refusal) → LaterAnswer f (take kept_bytes o) a → LaterAnswer f o a
later_kept f o (Ok v) (t, a, j) = (t, takes-cut o kept_bytes (omega arith) a, j)
later_kept f o (Err x) a = refuses-cut o kept_bytes (omega arith) a

-- The refusal of line 1 is all that is printed, whatever follows.
pub refused-runs : (read o out : List ℕ) (x : Refusal) → ended_lines read ≡ o ∷ [] → Refuses formula_line formula_limits o x → out ≡ refused_text 1 x
    → (rest : List ℕ) → Runs (read ++ rest) out
refused-runs read o out x ended a e rest =
    let (ls, d) = first_line_stays read rest o [] ended in
    subst (λ (ms : List (List ℕ)). Prints ms out) (sym d) (inr (x, a, e))

-- A trace line more prints its answer's text behind the others.
module _ (f : Formula) (line : List ℕ) (r : Result Verdicts Refusal) (a : LaterAnswer f line r) (k : ℕ) where
  pub traces-more : (i : ℕ) (ls : List (List ℕ)) (rest : List ℕ) → k ≡ i + length ls → PrintsTraces f i ls rest
      → PrintsTraces f i (ls ▸ line) (rest ++ later_text k r)
  traces-more i [] rest e p =
      (r, [], a, ap (λ (x : List ℕ). x ++ later_text k r) p ∙ ap (λ (j : ℕ). later_text j r) (omega arith) ∙ sym (append-nil (later_text i r)), refl)
  traces-more i (l ∷ ls) rest e (q, tail, b, c, p) = (
    q,
    tail ++ later_text k r,
    b,
    ap (λ (x : List ℕ). x ++ later_text k r) c ∙ append_assoc (later_text i q) tail (later_text k r),
    traces-more (suc i) ls tail (omega arith) p,
  )
