-- Laws of the lines of an input: what a byte more does, and that lines that have ended stay.
use mathlib.Core.Path.{◌≡◌, refl, ap, sym, ◌∙◌}
use mathlib.Core.Bool.{Bool, true, false, cond}
use mathlib.Core.List.{List, [], ◌∷◌, ◌++◌, head-eq_of_cons-eq}
use native.Mathlib.Omega.{arith}
use Prim.Native.Nat.{ℕ, ◌<◌}
use lib.Dec.{eqb}
use lib.ListN.{length, length-append}
use Rattle.table.specs.Node.{◌▸◌}
use Rattle.answers.specs.Input.{ended_after, open_after, ended_lines, open_line, with_last, input_lines}

-- ── Byte 10 ──

pub ended_end : (s o : List ℕ) → ended_after o (s ▸ 10) ≡ ended_after o s ▸ open_after o s
unfolding ended_after open_after
ended_end [] o = refl
ended_end (b ∷ s) o = go (eqb b 10) (ended_end s []) (ended_end s (o ▸ b))
  where
    go : (t : Bool) → ended_after [] (s ▸ 10) ≡ ended_after [] s ▸ open_after [] s → ended_after (o ▸ b) (s ▸ 10) ≡ ended_after (o ▸ b) s ▸ open_after (o ▸ b) s
        → cond t (o ∷ ended_after [] (s ▸ 10)) (ended_after (o ▸ b) (s ▸ 10)) ≡ cond t (o ∷ ended_after [] s) (ended_after (o ▸ b) s) ▸ cond t (open_after [] s) (open_after (o ▸ b) s)
    go true p q = ap (λ (x : List (List ℕ)). o ∷ x) p
    go false p q = q

pub open_end : (s o : List ℕ) → open_after o (s ▸ 10) ≡ []
unfolding open_after
open_end [] o = refl
open_end (b ∷ s) o = go (eqb b 10) (open_end s []) (open_end s (o ▸ b))
  where
    go : (t : Bool) → open_after [] (s ▸ 10) ≡ [] → open_after (o ▸ b) (s ▸ 10) ≡ [] → cond t (open_after [] (s ▸ 10)) (open_after (o ▸ b) (s ▸ 10)) ≡ []
    go true p q = p
    go false p q = q

-- ── Another byte ──

module _ (c : ℕ) (h : eqb c 10 ≡ false) where
  pub ended-byte : (s o : List ℕ) → ended_after o (s ▸ c) ≡ ended_after o s
  unfolding ended_after
  ended-byte [] o = rw h
  ended-byte (b ∷ s) o = go (eqb b 10) (ended-byte s []) (ended-byte s (o ▸ b))
    where
      go : (t : Bool) → ended_after [] (s ▸ c) ≡ ended_after [] s → ended_after (o ▸ b) (s ▸ c) ≡ ended_after (o ▸ b) s
          → cond t (o ∷ ended_after [] (s ▸ c)) (ended_after (o ▸ b) (s ▸ c)) ≡ cond t (o ∷ ended_after [] s) (ended_after (o ▸ b) s)
      go true p q = ap (λ (x : List (List ℕ)). o ∷ x) p
      go false p q = q

  pub open_byte : (s o : List ℕ) → open_after o (s ▸ c) ≡ open_after o s ▸ c
  unfolding open_after
  open_byte [] o = rw h
  open_byte (b ∷ s) o = go (eqb b 10) (open_byte s []) (open_byte s (o ▸ b))
    where
      go : (t : Bool) → open_after [] (s ▸ c) ≡ open_after [] s ▸ c → open_after (o ▸ b) (s ▸ c) ≡ open_after (o ▸ b) s ▸ c
          → cond t (open_after [] (s ▸ c)) (open_after (o ▸ b) (s ▸ c)) ≡ cond t (open_after [] s) (open_after (o ▸ b) s) ▸ c
      go true p q = p
      go false p q = q

-- ── The input's end ──

-- A first line that has ended is the first line of every longer input.
abbrev First : List ℕ → List (List ℕ) → Type 0
First l ls = (ms : List (List ℕ)) × (ls ≡ l ∷ ms)

first_stays : (s t o l : List ℕ) → First l (ended_after o s) → First l (ended_after o (s ++ t))
unfolding ended_after
first_stays [] t o l (ms, e) = let z : ◌≡◌ {A = ℕ} 0 1 = cc in absurd (omega arith)
first_stays (b ∷ s) t o l f = go (eqb b 10) f (first_stays s t (o ▸ b) l)
  where
    go : (u : Bool) → First l (cond u (o ∷ ended_after [] s) (ended_after (o ▸ b) s))
        → (First l (ended_after (o ▸ b) s) → First l (ended_after (o ▸ b) (s ++ t)))
        → First l (cond u (o ∷ ended_after [] (s ++ t)) (ended_after (o ▸ b) (s ++ t)))
    go true (ms, e) q = (ended_after [] (s ++ t), ap (λ (x : List ℕ). x ∷ ended_after [] (s ++ t)) (head-eq_of_cons-eq e))
    go false f q = q f

with_first : (ls : List (List ℕ)) (o l : List ℕ) → First l ls → First l (with_last ls o)
with_first [] o l (ms, e) = let z : ◌≡◌ {A = ℕ} 0 1 = cc in absurd (omega arith)
with_first (m ∷ ls) [] l f = f
with_first (m ∷ ls) (b ∷ o) l (ms, e) = (ls ▸ (b ∷ o), ap (λ (x : List ℕ). x ∷ (ls ▸ (b ∷ o))) (head-eq_of_cons-eq e))

pub first_line_stays : (s t l : List ℕ) (ls : List (List ℕ)) → ended_lines s ≡ l ∷ ls → First l (input_lines (s ++ t))
first_line_stays s t l ls e = with_first (ended_lines (s ++ t)) (open_line (s ++ t)) l (first_stays s t [] l (ls, e))

-- The last line without byte 10 is the line that byte 10 would end.
with_open : (ls : List (List ℕ)) (o : List ℕ) → (ls ≡ [] → ⊥) → (o ≡ [] → ⊥) → with_last ls o ≡ ls ▸ o
with_open [] o h g = absurd (h refl)
with_open (l ∷ ls) [] h g = absurd (g refl)
with_open (l ∷ ls) (b ∷ o) h g = refl

pub last-ends : (s : List ℕ) → (ended_lines s ≡ [] → ⊥) → (open_line s ≡ [] → ⊥) → input_lines s ≡ ended_lines (s ▸ 10)
last-ends s h g = with_open (ended_lines s) (open_line s) h g ∙ sym (ended_end s [])

pub only_line : (s : List ℕ) → ended_lines s ≡ [] → input_lines s ≡ ended_lines (s ▸ 10)
only_line s e = ap (λ (ls : List (List ℕ)). with_last ls (open_line s)) e ∙ sym (ended_end s [] ∙ ap (λ (ls : List (List ℕ)). ls ▸ open_line s) e)

pub no_last : (s l : List ℕ) (ls : List (List ℕ)) → ended_lines s ≡ l ∷ ls → open_line s ≡ [] → input_lines s ≡ l ∷ ls
no_last s l ls e o = ap (λ (x : List ℕ). with_last (ended_lines s) x) o ∙ ap (λ (ms : List (List ℕ)). with_last ms []) e

-- Behind byte 10 no line is open: the lines that have ended are all.
pub some-ended : (s : List ℕ) → 0 < length (ended_lines (s ▸ 10))
some-ended s = omega (arith, ap length (ended_end s []), length-append (ended_lines s) (open_line s ∷ []))

pub all_ended : (s : List ℕ) → input_lines (s ▸ 10) ≡ ended_lines (s ▸ 10)
all_ended s = go (ended_lines (s ▸ 10)) refl
  where
    go : (ls : List (List ℕ)) → ended_lines (s ▸ 10) ≡ ls → input_lines (s ▸ 10) ≡ ended_lines (s ▸ 10)
    go [] e = absurd (omega (arith, some-ended s, ap length e))
    go (l ∷ ls) e = no_last (s ▸ 10) l ls e (open_end s []) ∙ sym e
