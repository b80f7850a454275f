-- What is claimed of a whole run holds, since an input has one output.
use mathlib.Core.Path.{sym, ap, ◌∙◌}
use mathlib.Core.List.{List, ◌++◌}
use Prim.Native.Nat.{ℕ}
use Rattle.answers.proofs.ClaimsLaw as answers
use Rattle.turns.specs.Claims.{Claims}

pub claims : Claims
claims = record { one_output = λ input before out out' (p, r, e) (q, s, f). e ∙ ap (λ (x : List ℕ). before ++ x) ((answers.claims).one_output input p q r s) ∙ sym f }
