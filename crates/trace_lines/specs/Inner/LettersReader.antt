-- What the readers of letters promise.
use Rattle.std.specs.Prelude.{◌≡◌, true, false, ◌||◌, Option, Some, None, Result, Ok, Err, List, [], ◌∷◌, ◌++◌, map, ℕ, ◌+◌, ◌≤◌, length, drop, unwrap_or}
use Rattle.std.proofs.lemmas.List.Edits.{sets}
use Rattle.text.specs.Text.{text}
use Rattle.text.specs.Spelling.{digits, ending, inside}
use Rattle.trace_lines.specs.Spelling.{trace_line}
use Rattle.text.specs.Inner.Places.{Language, Stands, Halts, Stops, StopsLine}
use Rattle.text.specs.Inner.Number.{Numeral, Numbered}
use Rattle.text.specs.Inner.Scan.{NumberStands}
use Rattle.text.specs.declared.scan.Fault.{Fault}
use Rattle.trace_lines.specs.TraceAnswer.{large_letter}
use Rattle.trace_lines.specs.declared.Lengths.{Lengths}

-- ── Letters ──

-- The list l became l' by the letters xs, put behind those that were counted before, and these are the count now: none once a letter is too large.
abbrev pub Puts : List ℕ → Option ℕ → Option ℕ → List ℕ → List ℕ → Type 0
Puts xs None r l l' = r ≡ None
Puts xs (Some n) None l l' = large_letter xs ≡ true
Puts xs (Some n) (Some m) l l' = (large_letter xs ≡ false) × (m ≡ n + length xs) × (l' ≡ sets l n xs)

-- One letter.
abbrev pub LetterRead : List ℕ → ℕ → ℕ → Option ℕ → List ℕ → List ℕ → Result (Option ℕ) Fault → Type 0
LetterRead s at next n l l' (Ok m) = (x : ℕ) × NumberStands x s at next × Puts (x ∷ []) n m l l'
LetterRead s at next n l l' (Err f) = Halts Numeral Numbered s at f.0

-- ── Lists of letters ──

-- How letters are spelled after others, and after an opening bracket.
abbrev pub further : List ℕ → List ℕ
further xs = ending (map digits xs)

abbrev pub listed : List ℕ → List ℕ
listed xs = inside (map digits xs)

-- Any letters, or at least one.
abbrev pub Any : List ℕ → Type 0
Any xs = Unit {0}

abbrev pub NonEmpty : List ℕ → Type 0
NonEmpty [] = ⊥
NonEmpty (x ∷ xs) = Unit {0}

abbrev pub Spelled : (List ℕ → List ℕ) → (List ℕ → Type 0) → Language
Spelled F P w = (xs : List ℕ) × P xs × (w ≡ F xs)

-- The letters xs, spelled w.
pub record LettersStand (w xs s : List ℕ) (at next : ℕ) (n m : Option ℕ) (l l' : List ℕ) : Type 0 where
  pub stands : Stands w s at next
  pub few : unwrap_or m 0 ≤ next
  pub puts : Puts xs n m l l'

abbrev pub LettersRead : (List ℕ → List ℕ) → (List ℕ → Type 0) → List ℕ → ℕ → ℕ → Option ℕ → List ℕ → List ℕ → Result (Option ℕ) Fault → Type 0
LettersRead F P s at next n l l' (Ok m) = (xs : List ℕ) × P xs × LettersStand (F xs) xs s at next n m l l'
LettersRead F P s at next n l l' (Err f) = Stops (Spelled F P) s at f.0

-- ── Both lists ──

-- The rest of a line after `(finite`, after `(lasso (`, and all of it.
abbrev pub finite_rest : List ℕ → List ℕ → Language
finite_rest lead [] w = w ≡ further lead
finite_rest lead (x ∷ loop) w = ⊥

abbrev pub lasso_rest : List ℕ → List ℕ → Language
lasso_rest lead [] w = ⊥
lasso_rest lead (x ∷ loop) w = w ≡ listed lead ++ (text " (" ++ (listed (x ∷ loop) ++ text ")"))

abbrev pub whole_line : List ℕ → List ℕ → Language
whole_line lead loop w = w ≡ trace_line lead loop

-- Both counts, or none where either is none.
abbrev pub both_counted : Option ℕ → Option ℕ → Option Lengths
both_counted None b = None
both_counted (Some a) None = None
both_counted (Some a) (Some b) = Some (record { lead = a; cycle = b })

-- Both lists were put from their fronts on and counted; or some letter is too large.
abbrev pub ListsPut : List ℕ → List ℕ → Option Lengths → List ℕ → List ℕ → List ℕ → List ℕ → Type 0
ListsPut lead loop None l m l' m' = (large_letter lead || large_letter loop) ≡ true
ListsPut lead loop (Some k) l m l' m' =
    ((large_letter lead || large_letter loop) ≡ false) × (k.lead ≡ length lead) × (k.cycle ≡ length loop) × (l' ≡ sets l 0 lead) × (m' ≡ sets m 0 loop)

abbrev pub ListsRead : (List ℕ → List ℕ → Language) → List ℕ → ℕ → List ℕ → List ℕ → List ℕ → List ℕ → Result (Option Lengths) Fault → Type 0
ListsRead F s at l m l' m' (Ok r) = (lead : List ℕ) × (loop : List ℕ) × F lead loop (drop at s) × ListsPut lead loop r l m l' m'
ListsRead F s at l m l' m' (Err f) = StopsLine (λ w. (lead : List ℕ) × (loop : List ℕ) × F lead loop w) s at f.0
