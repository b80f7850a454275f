-- What the limits of a trace line say of its trace; where there is room for the most letters, 23 is never due.
use mathlib.Core.Path.{◌≡◌, refl}
use mathlib.Core.Bool.{Bool, true, not, ◌&&◌, ◌||◌}
use mathlib.Core.Option.{none, some}
use Prim.Native.Nat.{ℕ, ◌≤◌}
use native.Mathlib.Omega.{arith}
use borrow.Author.Tests.{leb-true, le-leb}
use lib.Dec.{leb}
use lib.ListN.{length}
use Rattle.std.specs.Prelude.{None}
use Rattle.trace.specs.declared.refusal.Refusal.{Refusal}
use Rattle.trace.specs.Refusal.{place}
use Rattle.trace.specs.Limits.{most_letters}
use Rattle.logic.specs.Trace.{size}
use Rattle.trace.specs.declared.refusal.Refusal.TheVariants.{LargeLetter, ManyLetters, ListRoom}
use Rattle.text.proofs.LimitsLaw.{passed, unplaced, or_unplaced, third}
use Rattle.trace_lines.specs.Spelling.{TraceLists}
use Rattle.trace_lines.specs.TraceAnswer.{large_letter, trace_limits, trace_refusal}

module _ (t : TraceLists) where
  abbrev letters : Bool
  letters = not (large_letter t.lead || large_letter t.loop)

  abbrev short : Bool
  short = leb (size t.lead t.loop) most_letters

  pub limits-short : trace_limits t ≡ none → size t.lead t.loop ≤ most_letters
  unfolding trace_limits
  limits-short e = leb-true _ _ (passed letters short LargeLetter ManyLetters e).1

  -- No limit carries a place.
  pub limits-unplaced : (z : Refusal) → trace_limits t ≡ some z → place z ≡ None
  unfolding trace_limits
  limits-unplaced z e = unplaced letters short LargeLetter ManyLetters refl refl z e

  pub refusal-unplaced : (a b : ℕ) (z : Refusal) → trace_refusal a b t ≡ some z → place z ≡ None
  unfolding trace_refusal
  refusal-unplaced a b z e = or_unplaced (trace_limits t) limits-unplaced _ ListRoom refl z e

  pub trace-room : (a b : ℕ) → most_letters ≤ a → most_letters ≤ b → trace_refusal a b t ≡ trace_limits t
  unfolding trace_limits trace_refusal
  trace-room a b h i =
      third letters short (leb (length t.lead) a && leb (length t.loop) b) LargeLetter ManyLetters ListRoom (λ p q.
      let few = leb-true (size t.lead t.loop) most_letters q in
      both (le-leb (length t.lead) a (omega arith)) (le-leb (length t.loop) b (omega arith)))
    where
      both : {x y : Bool} → x ≡ true → y ≡ true → (x && y) ≡ true
      both p q = rw (p, q)
