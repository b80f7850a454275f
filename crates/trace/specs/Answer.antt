-- What the operations on traces answer.
use Rattle.std.specs.Prelude.{cond, List, ℕ, ◌+◌, ◌*◌, ◌-◌, min, ◌≡◌, ltb, length, drop, Result, Ok, Err}
use Rattle.std.proofs.Math.Option.{Option, none, some}
use Rattle.std.specs.Borrow.{Bor}
use Rattle.logic.specs.Trace.{letter_at}
use Rattle.trace.specs.Limits.{letter_bytes}
use Rattle.trace.specs.declared.refusal.Refusal.{Refusal}
use Rattle.trace.specs.declared.refusal.Refusal.TheVariants.{NoMoment}

-- The letter of a moment, or refusal 25.
abbrev pub found : Option ℕ → Result ℕ Refusal
found (some x) = Ok x
found none = Err NoMoment

abbrev pub LetterIs : List ℕ → List ℕ → ℕ → Result ℕ Refusal → Type 0
LetterIs lead loop m r = r ≡ found (letter_at lead loop m)

-- The rest of the list that a moment falls in, from that letter on: past both lists nothing.
unfoldable pub rest_of : List ℕ → List ℕ → ℕ → List ℕ
rest_of lead loop m = cond (ltb m (length lead)) (drop m lead) (drop (m - length lead) loop)

-- Where that part begins, as a block of memory and a byte in it, for a lead-in of n letters that begins at p and a loop of e letters that begins
-- at q: past both lists it is the end of the loop list.
unfoldable pub rest_start : ℕ × ℕ → ℕ × ℕ → ℕ → ℕ → ℕ → ℕ × ℕ
rest_start p q n e m = cond (ltb m n) (p.0, m * letter_bytes + p.1) (q.0, min (m - n) e * letter_bytes + q.1)

-- What the part handed back is, and where it lies.
pub record RestIs (lead loop : Bor (List ℕ)) (m : ℕ) (r : Bor (List ℕ)) : Type 0 where
  pub content : r.now ≡ rest_of lead.now loop.now m
  pub start : r.ref_ptr ≡ rest_start lead.ref_ptr loop.ref_ptr (length lead.now) (length loop.now) m
