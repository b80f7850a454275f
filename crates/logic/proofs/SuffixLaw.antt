-- A trace looked at from a later moment on is a trace again, with the same loop: the suffixes of a trace's word are words of traces.
use Prim.Native.Nat.{ℕ, zero, suc, ◌+◌, ◌-◌, ◌%◌, ◌<◌}
use mathlib.Core.Path.{◌≡◌, refl, sym, ap, fun_ext, ◌∙◌}
use mathlib.Core.Option.{some}
use mathlib.Core.List.{List, [], ◌∷◌}
use native.Mathlib.Omega.{arith}
use native.Mathlib.Nat.{zero-add, mod-eq_of_lt, mod-eq-sub-mod}
use native.Mathlib.Decide.{dec_lt}
use lib.ListN.{length, get_or}
use Rattle.logic.specs.Trace.{letter_at}
use Rattle.logic.specs.Word.{Word, suffix, slot_of, word_of}
use Rattle.logic.proofs.MomentsLaw.{letter_lead, letter_loop}

-- The loop once more as lead-in changes nothing.
pub letter_unrolled : (loop : List ℕ) (m : ℕ) → 0 < length loop → letter_at loop loop m ≡ letter_at [] loop m
letter_unrolled loop m z = elim (dec_lt m (length loop)) [ yes c ↦ in_lead c | no c ↦ in_loop c ]
  where
    at : (k : ℕ) → m % length loop ≡ k → some (get_or loop k 0) ≡ letter_at [] loop m
    at k e =
        let q : m - 0 ≡ m = omega arith in
        sym (letter_loop [] loop m (omega arith) z ∙ ap (λ (n : ℕ). some (get_or loop n 0)) (ap (λ (n : ℕ). n % length loop) q ∙ e))

    in_lead : m < length loop → letter_at loop loop m ≡ letter_at [] loop m
    in_lead c = letter_lead loop loop m c ∙ at m (mod-eq_of_lt c)

    in_loop : (m < length loop → ⊥) → letter_at loop loop m ≡ letter_at [] loop m
    in_loop c = letter_loop loop loop m (omega arith) z ∙ at ((m - length loop) % length loop) (mod-eq-sub-mod (omega arith))

from_one : (lead loop : List ℕ) → (rest : List ℕ) × ((m : ℕ) → letter_at rest loop m ≡ letter_at lead loop (suc m))
unfolding letter_at
from_one (x ∷ lead) loop = (lead, λ m. refl)
from_one [] [] = ([], λ m. refl)
from_one [] (y ∷ loop) = (loop, λ m. letter_unrolled (y ∷ loop) (suc m) (omega arith))

pub trace_from : (k : ℕ) (lead loop : List ℕ) → (rest : List ℕ) × ((m : ℕ) → letter_at rest loop m ≡ letter_at lead loop (k + m))
trace_from zero lead loop = (lead, λ m. ap (letter_at lead loop) (sym (zero-add m)))
trace_from (suc k) lead loop =
    let a = from_one lead loop in
    let b = trace_from k a.0 loop in
    (b.0, λ m. b.1 m ∙ a.1 (k + m) ∙ ap (letter_at lead loop) (omega arith))

-- w is the word of a trace.
pub record OfTrace (w : Word) : Type 0 where
  pub lead : List ℕ
  pub loop : List ℕ
  pub word : word_of (letter_at lead loop) ≡ w

pub of_trace : (lead loop : List ℕ) → OfTrace (word_of (letter_at lead loop))
of_trace lead loop = record { lead = lead; loop = loop; word = refl }

pub of_trace_suffix : (k : ℕ) {w : Word} → OfTrace w → OfTrace (suffix k w)
of_trace_suffix k o =
    let r = trace_from k o.lead o.loop in
    record { lead = r.0; loop = o.loop; word = fun_ext (λ m. ap slot_of (r.1 m)) ∙ ap (suffix k) o.word }
