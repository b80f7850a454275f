-- What a verdict on a trace says, for any claim, and the refusals of a trace.
use Rattle.std.specs.Prelude.{◌≡◌, Bool, true, false, List, ℕ, ltb, leb, Result, Ok, Err}
use Rattle.std.proofs.Math.Option.{Option, none, some}
use Rattle.logic.specs.Trace.{size}
use Rattle.trace.specs.Limits.{most_letters}
use Rattle.trace.specs.declared.refusal.Refusal.{Refusal}
use Rattle.trace.specs.declared.refusal.Refusal.TheVariants.{LongTrace, EmptyTrace}
use Rattle.trace.specs.Refusal.{unless}

-- 9: more letters than a verdict takes. 16: no letter.
abbrev pub long_refusal : List ℕ → List ℕ → Option Refusal
long_refusal lead loop = unless (leb (size lead loop) most_letters) LongTrace none

abbrev pub empty_refusal : List ℕ → List ℕ → Option Refusal
empty_refusal lead loop = unless (ltb 0 (size lead loop)) EmptyTrace none

-- The refusal of these inputs, or that there is none and whether the claim is so: true is yes.
abbrev pub Judges : Option Refusal → Type 0 → Result Bool Refusal → Type 0
Judges o A (Ok true) = (o ≡ none) × A
Judges o A (Ok false) = (o ≡ none) × (A → ⊥)
Judges o A (Err x) = o ≡ some x
