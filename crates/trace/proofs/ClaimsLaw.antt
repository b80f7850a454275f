-- What is claimed of traces holds.
use mathlib.Core.Path.{◌≡◌, sym, ap, ◌∙◌}
use mathlib.Core.Option.{some}
use mathlib.Core.List.{List, []}
use Prim.Native.Nat.{ℕ, ◌-◌, ◌≤◌, ◌<◌}
use native.Mathlib.Omega.{arith}
use native.Mathlib.Nat.{mod-eq_of_lt}
use native.Mathlib.Decide.{dec_lt}
use borrow.Author.Tests.{lt-ltb, le-ltb}
use lib.ListN.{length, get_or, drop, drop_of_length-le}
use lib.Seq.{get_or-drop}
use Rattle.logic.specs.Trace.{letter_at, size}
use Rattle.trace.specs.Answer.{rest_of}
use Rattle.trace.specs.Claims.{Claims}
use Rattle.trace.proofs.ToldLaw.{one_refusal}
use Rattle.logic.proofs.MomentsLaw.{letter_lead, letter_loop}

rest-lead : (lead loop : List ℕ) (m : ℕ) → m < length lead → rest_of lead loop m ≡ drop m lead
unfolding rest_of
rest-lead lead loop m h = simp (lt-ltb _ _ h)

rest-loop : (lead loop : List ℕ) (m : ℕ) → length lead ≤ m → rest_of lead loop m ≡ drop (m - length lead) loop
unfolding rest_of
rest-loop lead loop m h = simp (le-ltb _ _ h)

first : (l : List ℕ) (n : ℕ) → get_or (drop n l) 0 0 ≡ get_or l n 0
first l n = get_or-drop n l 0 0 ∙ ap (λ (k : ℕ). get_or l k 0) (omega arith)

rest_begins : (lead loop : List ℕ) (m : ℕ) → m < size lead loop → letter_at lead loop m ≡ some (get_or (rest_of lead loop m) 0 0)
rest_begins lead loop m h = go (dec_lt m (length lead))
  where
    go : Dec (m < length lead) → letter_at lead loop m ≡ some (get_or (rest_of lead loop m) 0 0)
    go (yes b) = rw (rest-lead lead loop m b, first lead m) (letter_lead lead loop m b)
    go (no b) =
        let g : length lead ≤ m = omega arith in
        let k : m - length lead < length loop = omega arith in
        rw (rest-loop lead loop m g, first loop (m - length lead), ← mod-eq_of_lt k) (letter_loop lead loop m g (omega arith))

rest_past : (lead loop : List ℕ) (m : ℕ) → size lead loop ≤ m → rest_of lead loop m ≡ []
rest_past lead loop m h =
    let g : length loop ≤ m - length lead = omega arith in
    rest-loop lead loop m (omega arith) ∙ drop_of_length-le loop g

pub claims : Claims
claims =
    record {
      one_letter = λ lead loop m r r' e e'. e ∙ sym e';
      one_rest = λ lead loop m r r' e e'. (e.start ∙ sym e'.start, e.content ∙ sym e'.content);
      rest_begins = rest_begins;
      rest_past = rest_past;
      one_refusal = one_refusal;
    }
