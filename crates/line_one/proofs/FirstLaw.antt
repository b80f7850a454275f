-- The numbers in front of a list that a table was put into, and the tables of line 1.
use mathlib.Core.Path.{◌≡◌, ap, subst, ◌∙◌}
use mathlib.Core.List.{List}
use Prim.Native.Nat.{ℕ, ◌*◌}
use lib.ListN.{length, take, drop}
use lib.Seq.{take_at}
use Rattle.std.specs.Prelude.{Ok}
use Rattle.std.specs.List.{refill}
use Rattle.logic.specs.Written.{Written}
use Rattle.psl.specs.Check.{psl_rules}
use Rattle.translate.specs.Answer.{Delivers}
use Rattle.text.specs.Reading.{Takes}
use Rattle.formula_lines.specs.Spelling.{formula_line}
use Rattle.formula_lines.specs.FormulaAnswer.{formula_limits, FormulaAnswer}
use Rattle.answers.specs.Inner.{TablesOf}
use Rattle.answers.proofs.AnswerLaw as answers

-- A vector whose elements were written as a list, and cut.
pub cut : (xs ws : List ℕ) {items : List ℕ} (n : ℕ) → length ws ≡ length xs → items ≡ take n (refill (length xs) xs ws) → items ≡ take n ws
cut xs ws n h e = e ∙ ap (take n) (take_at ws (drop (length ws) xs) (length xs) h)

pub tables : (line l m k k' : List ℕ) {t psl ltl : List ℕ} (n s : ℕ) → length l ≡ 3 * psl_rules.most → FormulaAnswer line l (Ok n) m → Delivers t k (Ok s) k'
    → t ≡ take (3 * n) m → psl ≡ take (3 * n) m → ltl ≡ take (3 * s) k' → (f : Written) × Takes formula_line formula_limits line f × TablesOf f psl ltl
tables line l m k k' n s room a d e p q =
    let (f, t, b) = answers.first_tables line l m room n a (subst (λ (x : List ℕ). Delivers x k (Ok s) k') e d) in
    (f, t, rw (p, q) b)
