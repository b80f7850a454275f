-- What is proved of the exported functions, in one list: where a contract is no equation, it still leaves one answer and one content of each lent list.
use Rattle.std.specs.Prelude.{◌≡◌, List, ℕ}
use Rattle.trace.specs.declared.refusal.Refusal.{Refusal}
use Rattle.brancadol.specs.Coded.{refusal_code}
use Rattle.brancadol.specs.Refused.{Refused}
use Rattle.brancadol.specs.Answer.{PslCoded, LtlCoded, TranslationCoded, FormulaCoded, TraceCoded}

pub record Claims : Type 0 where
  -- The answer to a refusal tells its number and its place.
  pub one_refusal : (x y : Refusal) → Refused x → Refused y → refusal_code x ≡ refusal_code y → x ≡ y
  pub one_psl : (t lead loop : List ℕ) (r r' : ℕ) → PslCoded t lead loop r → PslCoded t lead loop r' → r ≡ r'
  pub one_ltl : (t lead loop : List ℕ) (r r' : ℕ) → LtlCoded t lead loop r → LtlCoded t lead loop r' → r ≡ r'
  pub one_translation : (t l : List ℕ) (r r' : ℕ) (m m' : List ℕ) → TranslationCoded t l r m → TranslationCoded t l r' m' → (r ≡ r') × (m ≡ m')
  pub one_formula : (s l : List ℕ) (r r' : ℕ) (m m' : List ℕ) → FormulaCoded s l r m → FormulaCoded s l r' m' → (r ≡ r') × (m ≡ m')
  pub one_trace : (s k l : List ℕ) (r r' : ℕ) (m m' n n' : List ℕ) → TraceCoded s k l r m n → TraceCoded s k l r' m' n'
      → (r ≡ r') × (m ≡ m') × (n ≡ n')
