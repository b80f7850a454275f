-- How written formulas are spelled.
use Rattle.std.specs.Prelude.{List, [], ◌∷◌, ℕ}
use Rattle.logic.specs.Formula.{BoolExpr, btrue, var, bnot, band}
use Rattle.logic.specs.Written.{Written, Weak, Strong, Not, And, Next, Until, Abort, Or, Implies, Iff, WeakNext, Eventually, Always, WeakUntil, Before}
use Rattle.text.specs.Text.{text}
use Rattle.text.specs.Spelling.{digits, brackets}

unfoldable pub spell_b : BoolExpr → List ℕ
spell_b btrue = text "true"
spell_b (var k) = brackets (text "var" ∷ digits k ∷ [])
spell_b (bnot b) = brackets (text "bnot" ∷ spell_b b ∷ [])
spell_b (band b c) = brackets (text "band" ∷ spell_b b ∷ spell_b c ∷ [])

unfoldable pub spell : Written → List ℕ
spell (Weak b) = brackets (text "weak" ∷ spell_b b ∷ [])
spell (Strong b) = brackets (text "strong" ∷ spell_b b ∷ [])
spell (Not f) = brackets (text "not" ∷ spell f ∷ [])
spell (And f g) = brackets (text "and" ∷ spell f ∷ spell g ∷ [])
spell (Next f) = brackets (text "next" ∷ spell f ∷ [])
spell (Until f g) = brackets (text "until" ∷ spell f ∷ spell g ∷ [])
spell (Abort f b) = brackets (text "abort" ∷ spell f ∷ spell_b b ∷ [])
spell (Or f g) = brackets (text "or" ∷ spell f ∷ spell g ∷ [])
spell (Implies f g) = brackets (text "implies" ∷ spell f ∷ spell g ∷ [])
spell (Iff f g) = brackets (text "iff" ∷ spell f ∷ spell g ∷ [])
spell (WeakNext f) = brackets (text "wnext" ∷ spell f ∷ [])
spell (Eventually f) = brackets (text "eventually" ∷ spell f ∷ [])
spell (Always f) = brackets (text "always" ∷ spell f ∷ [])
spell (WeakUntil f g) = brackets (text "wuntil" ∷ spell f ∷ spell g ∷ [])
spell (Before f g) = brackets (text "before" ∷ spell f ∷ spell g ∷ [])

-- A formula line.
abbrev pub formula_line : Written → List ℕ
formula_line w = brackets (text "psl" ∷ spell w ∷ [])
