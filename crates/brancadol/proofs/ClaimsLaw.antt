-- What is claimed of the exported functions holds: the operations have one answer, and an answer has one code.
use mathlib.Core.Path.{◌≡◌, ap, sym, ◌∙◌}
use mathlib.Core.List.{List}
use Prim.Native.Nat.{ℕ}
use Rattle.psl_verdict.proofs.ClaimsLaw as psl
use Rattle.ltl_verdict.proofs.ClaimsLaw as ltl
use Rattle.translate.proofs.ClaimsLaw as translator
use Rattle.formula_lines.proofs.ClaimsLaw as formulas
use Rattle.trace_lines.proofs.ClaimsLaw as traces
use Rattle.brancadol.specs.Coded.{verdict_code, count_code, trace_code}
use Rattle.brancadol.specs.Answer.{PslCoded, LtlCoded, TranslationCoded, FormulaCoded, TraceCoded}
use Rattle.brancadol.specs.Claims.{Claims}
use Rattle.brancadol.proofs.RefusedLaw.{one_refusal}

-- Equal answers have equal codes.
one_code : {A : Type 0} {a b : A} (coded : A → ℕ) {r r' : ℕ} → a ≡ b → r ≡ coded a → r' ≡ coded b → r ≡ r'
one_code coded e p q = p ∙ ap coded e ∙ sym q

one_psl : (t lead loop : List ℕ) (r r' : ℕ) → PslCoded t lead loop r → PslCoded t lead loop r' → r ≡ r'
one_psl t lead loop r r' (v, j, p) (w, k, q) = one_code verdict_code ((psl.claims).one_psl t lead loop v w j k) p q

one_ltl : (t lead loop : List ℕ) (r r' : ℕ) → LtlCoded t lead loop r → LtlCoded t lead loop r' → r ≡ r'
one_ltl t lead loop r r' (v, j, p) (w, k, q) = one_code verdict_code ((ltl.claims).one_ltl t lead loop v w j k) p q

one_translation : (t l : List ℕ) (r r' : ℕ) (m m' : List ℕ) → TranslationCoded t l r m → TranslationCoded t l r' m' → (r ≡ r') × (m ≡ m')
one_translation t l r r' m m' (a, d, p) (b, e, q) =
    let same = (translator.claims).one_answer t l a b m m' d e in
    (one_code count_code same.0 p q, same.1)

one_formula : (s l : List ℕ) (r r' : ℕ) (m m' : List ℕ) → FormulaCoded s l r m → FormulaCoded s l r' m' → (r ≡ r') × (m ≡ m')
one_formula s l r r' m m' (a, d, p) (b, e, q) =
    let same = (formulas.claims).formula_answer s l a b m m' d e in
    (one_code count_code same.0 p q, same.1)

one_trace : (s k l : List ℕ) (r r' : ℕ) (m m' n n' : List ℕ) → TraceCoded s k l r m n → TraceCoded s k l r' m' n' → (r ≡ r') × (m ≡ m') × (n ≡ n')
one_trace s k l r r' m m' n n' (a, d, p) (b, e, q) =
    let same = (traces.claims).trace_answer s k l a b m m' n n' d e in
    (one_code trace_code same.0 p q, same.1, same.2)

pub claims : Claims
claims =
    record { one_refusal = one_refusal; one_psl = one_psl; one_ltl = one_ltl; one_translation = one_translation; one_formula = one_formula; one_trace = one_trace }
