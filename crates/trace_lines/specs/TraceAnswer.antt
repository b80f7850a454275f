-- What the reader of a trace line answers.
use Rattle.std.specs.Prelude.{◌≡◌, Bool, false, not, ◌&&◌, ◌||◌, List, [], ◌∷◌, ℕ, ◌^◌, length, leb, Result, Ok, Err}
use Rattle.std.proofs.Math.Option.{Option, none}
use Rattle.logic.specs.Letter.{signals}
use Rattle.trace.specs.Limits.{most_letters}
use Rattle.logic.specs.Trace.{size}
use Rattle.trace.specs.declared.refusal.Refusal.{Refusal}
use Rattle.trace.specs.declared.refusal.Refusal.TheVariants.{LargeLetter, ManyLetters, ListRoom}
use Rattle.trace.specs.Refusal.{unless, or_else}
use Rattle.trace_lines.specs.Spelling.{TraceLists, line_of_trace}
use Rattle.text.specs.Limits.{front}
use Rattle.text.specs.Reading.{Takes, Refuses}
use Rattle.trace_lines.specs.declared.Lengths.{Lengths}

-- Some number has a bit that is no signal's.
abbrev pub large_letter : List ℕ → Bool
large_letter [] = false
large_letter (x ∷ xs) = leb (2 ^ signals) x || large_letter xs

-- 21: a number that is no letter. 22: more letters than a verdict takes.
unfoldable pub trace_limits : TraceLists → Option Refusal
trace_limits t =
    unless (not (large_letter t.lead || large_letter t.loop)) LargeLetter
    (unless (leb (size t.lead t.loop) most_letters) ManyLetters none)

-- Then 23: a lent list has no room for its letters.
unfoldable pub trace_refusal : ℕ → ℕ → TraceLists → Option Refusal
trace_refusal room roomLoop t =
    or_else (trace_limits t) (unless (leb (length t.lead) room && leb (length t.loop) roomLoop) ListRoom none)

-- The answer and the lists l' and m' at exit, for the line s and the lists l and m at entry: the letters in front of the lists, or the refusal and the
-- lists as they were.
abbrev pub TraceAnswer : List ℕ → List ℕ → List ℕ → Result Lengths Refusal → List ℕ → List ℕ → Type 0
TraceAnswer s l m (Ok k) l' m' =
    (t : TraceLists) × Takes line_of_trace (trace_refusal (length l) (length m)) s t × (k.lead ≡ length t.lead) × (k.cycle ≡ length t.loop)
    × (l' ≡ front t.lead l) × (m' ≡ front t.loop m)
TraceAnswer s l m (Err e) l' m' = Refuses line_of_trace (trace_refusal (length l) (length m)) s e × (l' ≡ l) × (m' ≡ m)
