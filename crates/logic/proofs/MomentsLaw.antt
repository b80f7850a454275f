-- Laws of the letters of a trace: by the list that a moment falls in, going round the loop, and what can be searched.
use Prim.Native.Nat.{ℕ, zero, suc, ◌+◌, ◌-◌, ◌%◌, ◌≤◌, ◌<◌}
use mathlib.Core.Path.{◌≡◌, refl, ap, subst, ◌∙◌}
use mathlib.Core.Bool.{Bool}
use mathlib.Core.Logic.{◌⊎◌, inl, inr}
use mathlib.Core.Option.{Option, none, some}
use mathlib.Core.List.{List, [], ◌∷◌}
use native.Mathlib.Omega.{arith}
use native.Mathlib.Nat.{add-mod_right, zero-add, suc-add}
use lib.Dec.{T}
use lib.ListN.{length, get_or}
use Rattle.logic.specs.Trace.{Trace, letter_at, size, Has, InTrace}
use Rattle.logic.proofs.TestLaw.{decided_test}
use Rattle.logic.proofs.SearchLaw.{earliest_ever}

-- ── By the list that a moment falls in ──

pub letter_lead : (lead loop : List ℕ) (m : ℕ) → m < length lead → letter_at lead loop m ≡ some (get_or lead m 0)
unfolding letter_at
letter_lead [] loop m h = absurd (omega arith)
letter_lead (x ∷ lead) loop zero h = refl
letter_lead (x ∷ lead) loop (suc m) h = letter_lead lead loop m (omega arith)

letter_add : (lead loop : List ℕ) (k : ℕ) → letter_at lead loop (length lead + k) ≡ letter_at [] loop k
unfolding letter_at
letter_add [] loop k = ap (letter_at [] loop) (zero-add k)
letter_add (x ∷ lead) loop k = ap (letter_at (x ∷ lead) loop) (suc-add (length lead) k) ∙ letter_add lead loop k

letter_past : (lead loop : List ℕ) (m : ℕ) → length lead ≤ m → letter_at lead loop m ≡ letter_at [] loop (m - length lead)
letter_past lead loop m h = ap (letter_at lead loop) (omega arith) ∙ letter_add lead loop (m - length lead)

pub letter_loop : (lead loop : List ℕ) (m : ℕ) → length lead ≤ m → 0 < length loop
    → letter_at lead loop m ≡ some (get_or loop ((m - length lead) % length loop) 0)
unfolding letter_at
letter_loop lead [] m h g = absurd (omega arith)
letter_loop lead (y ∷ loop) m h g = letter_past lead (y ∷ loop) m h

-- Outside: the trace is finite, and the moment is not below its length.
pub letter_none : (lead loop : List ℕ) (m : ℕ) → length lead ≤ m → length loop ≡ 0 → letter_at lead loop m ≡ none
unfolding letter_at
letter_none lead [] m h e = letter_past lead [] m h
letter_none lead (y ∷ loop) m h e = absurd (omega arith)

-- ── Inside ──

pub is-inside : (t : Trace) (m x : ℕ) → t m ≡ some x → InTrace t m
is-inside t m x e = rw e tt

pub letter_of : (o : Option ℕ) → Has o → (x : ℕ) × (o ≡ some x)
letter_of none h = absurd h
letter_of (some x) h = (x, refl)

pub outside : (o : Option ℕ) → (Has o → ⊥) → o ≡ none
outside none h = refl
outside (some x) h = absurd (h tt)

-- A trace that is not empty has a first moment.
pub starts : (lead loop : List ℕ) → 0 < size lead loop → InTrace (letter_at lead loop) 0
unfolding letter_at
starts (x ∷ lead) loop h = tt
starts [] [] h = absurd (omega arith)
starts [] (y ∷ loop) h = tt

-- No moment inside follows one outside.
abbrev pub Gapless : Trace → Type 0
Gapless t = (m : ℕ) → InTrace t (suc m) → InTrace t m

pub inside-before : (t : Trace) → Gapless t → (d i k : ℕ) → k ≡ i + d → InTrace t k → InTrace t i
inside-before t g zero i k e h = subst (InTrace t) (omega arith) h
inside-before t g (suc d) i k e h = g i (inside-before t g d (suc i) k (omega arith) h)

pub gapless : (lead loop : List ℕ) → Gapless (letter_at lead loop)
unfolding letter_at
gapless (x ∷ lead) loop zero h = tt
gapless (x ∷ lead) loop (suc m) h = gapless lead loop m h
gapless [] [] m h = h
gapless [] (y ∷ loop) m h = tt

-- ── Going round ──

-- The length of a turn round the loop; past a finite end every step is a turn.
abbrev pub turn : List ℕ → ℕ
turn [] = 1
turn (y ∷ loop) = length (y ∷ loop)

pub turn_pos : (loop : List ℕ) → 0 < turn loop
turn_pos [] = omega arith
turn_pos (y ∷ loop) = omega arith

pub turned : (lead loop : List ℕ) (m : ℕ) → length lead ≤ m → letter_at lead loop (m + turn loop) ≡ letter_at lead loop m
unfolding letter_at
turned (x ∷ lead) loop zero h = absurd (omega arith)
turned (x ∷ lead) loop (suc m) h =
    ap (letter_at (x ∷ lead) loop) (let z : suc m + turn loop ≡ suc (m + turn loop) = omega arith in z) ∙ turned lead loop m (omega arith)
turned [] [] m h = refl
turned [] (y ∷ loop) m h = ap (λ (k : ℕ). some (get_or (y ∷ loop) k 0)) (add-mod_right m (length (y ∷ loop)))

-- ── Searching: whether a test of letters is passed from a moment on ──

abbrev pub passes : (ℕ → Bool) → Option ℕ → Type 0
passes p none = ⊥
passes p (some x) = T (p x)

abbrev pub Sometime : (ℕ → Bool) → Trace → ℕ → Type 0
Sometime p t i = (k : ℕ) × (i ≤ k) × passes p (t k)

abbrev pub Never : (ℕ → Bool) → Trace → ℕ → Type 0
Never p t i = (k : ℕ) → i ≤ k → passes p (t k) → ⊥

abbrev pub Searchable : Trace → Type 0
Searchable t = (p : ℕ → Bool) (i : ℕ) → Sometime p t i ⊎ Never p t i

decided : (p : ℕ → Bool) (o : Option ℕ) → Dec (passes p o)
decided p none = no (λ h. h)
decided p (some x) = decided_test (p x)

-- A search needs to look no further than the lead-in and one turn.
pub searchable : (lead loop : List ℕ) → Searchable (letter_at lead loop)
searchable lead loop p i =
    let t : Trace = letter_at lead loop in
    let back : (k : ℕ) → length lead ≤ k → passes p (t (k + turn loop)) → passes p (t k) = λ k l. subst (passes p) (turned lead loop k l) in
    elim (earliest_ever (λ k. passes p (t k)) (length lead) (turn loop) (turn_pos loop) back i (λ k. decided p (t k))) [
      | inl (k, b, E) ↦ inl (k, E.from, E.holds)
      | inr never ↦ inr never
    ]
