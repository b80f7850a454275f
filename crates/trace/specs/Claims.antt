-- What is proved of traces, in one list.
use Rattle.std.specs.Prelude.{◌≡◌, List, [], ℕ, ◌≤◌, ◌<◌, get_or, Result}
use Rattle.std.proofs.Math.Option.{some}
use Rattle.std.specs.Borrow.{Bor}
use Rattle.logic.specs.Trace.{letter_at, size}
use Rattle.trace.specs.Refusal.{told}
use Rattle.trace.specs.Answer.{LetterIs, rest_of, RestIs}
use Rattle.trace.specs.declared.refusal.Refusal.{Refusal}

pub record Claims : Type 0 where
  -- The letter of a moment has one answer.
  pub one_letter : (lead loop : List ℕ) (m : ℕ) (r r' : Result ℕ Refusal) → LetterIs lead loop m r → LetterIs lead loop m r' → r ≡ r'
  -- The rest of a list has one answer: one place and one content.
  pub one_rest : (lead loop : Bor (List ℕ)) (m : ℕ) (r r' : Bor (List ℕ)) → RestIs lead loop m r → RestIs lead loop m r'
      → (r.ref_ptr ≡ r'.ref_ptr) × (r.now ≡ r'.now)
  -- The rest of the list that a moment within the lists falls in begins with that moment's letter.
  pub rest_begins : (lead loop : List ℕ) (m : ℕ) → m < size lead loop → letter_at lead loop m ≡ some (get_or (rest_of lead loop m) 0 0)
  -- Past both lists nothing is left.
  pub rest_past : (lead loop : List ℕ) (m : ℕ) → size lead loop ≤ m → rest_of lead loop m ≡ []
  -- No two refusals have one number and one place.
  pub one_refusal : (x y : Refusal) → told x ≡ told y → x ≡ y
