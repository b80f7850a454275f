-- What each way out of the inner writers of a node line gives.
use mathlib.Core.Path.{◌≡◌, refl, ap, sym, subst, ◌∙◌}
use mathlib.Core.Bool.{Bool, true, false}
use mathlib.Core.List.{List, [], ◌∷◌, ◌++◌, map, append_assoc}
use Prim.Native.Nat.{ℕ, zero, suc, ◌+◌, ◌<◌, ◌≤◌, min}
use native.Mathlib.Omega.{arith}
use borrow.Author.Tests.{ltb-true, ltb-false}
use lib.Dec.{ltb}
use native.Mathlib.Numerals.{add-one}
use lib.ListN.{length, get_or, take, drop, length-append, get_or-eq_default}
use lib.Seq.{sets, sets-eq, drop-cons, take_at}
use Rattle.table.specs.Node.{node}
use Rattle.table.proofs.KindLaw.{◌⨾◌, each}
use Rattle.text.specs.Text.{text}
use Rattle.text.specs.Spelling.{digits, ending}
use Rattle.text.proofs.NumberLaw.{digits-short}
use Rattle.table.specs.Rules.{Use, shape_of}
use Rattle.ltl.specs.Check.{ltl_rules}
use Rattle.ltl.specs.Kind.{number}
use Rattle.ltl.specs.declared.kind.Kind.{Kind}
use Rattle.ltl.specs.declared.kind.Kind.TheVariants.{True, Var, Not, And, Or, Next, Until}
use Rattle.node_lines.specs.Spelling.{ltl_word, ltl_places, node_line}
use Rattle.node_lines.specs.Inner.Writer.{used, Spelled, line_end}

word-length : (k : ℕ) → length (ltl_word k) ≤ 5
unfolding ltl_word
word-length k = go (ltb k 7) refl
  where
    go : (b : Bool) → ltb k 7 ≡ b → length (ltl_word k) ≤ 5
    go true e =
        each (λ k. length (ltl_word k) ≤ 5) 7
        (omega arith ⨾ omega arith ⨾ omega arith ⨾ omega arith ⨾ omega arith ⨾ omega arith ⨾ omega arith ⨾ tt) k (ltb-true k 7 e)
    go false e =
        let none = get_or-eq_default (text "true" ∷ text "var" ∷ text "not" ∷ text "and" ∷ text "or" ∷ text "next" ∷ text "until" ∷ []) [] (ltb-false k 7 e) in
        subst (λ (w : List ℕ). length w ≤ 5) (sym none) (omega arith)

end-length : (n p q : ℕ) → p < 65536 → q < 65536 → length (ending (map digits (take n (p ∷ q ∷ [])))) ≤ 13
end-length zero p q h g = omega arith
end-length (suc zero) p q h g = simp length-append (omega (arith, digits-short 4 p (omega arith)))
end-length (suc (suc zero)) p q h g = simp length-append (omega (arith, digits-short 4 p (omega arith), digits-short 4 q (omega arith)))
end-length (suc (suc (suc n))) p q h g = simp length-append (omega (arith, digits-short 4 p (omega arith), digits-short 4 q (omega arith)))

pub line_bytes : (i k p q : ℕ) → node_line i (node k p q) ≡ text "(" ++ (digits i ++ (text " " ++ (ltl_word k ++ line_end (take (ltl_places k) (p ∷ q ∷ [])))))
line_bytes i k p q = simp append_assoc

-- The longest node line.
pub line_length : (i k p q : ℕ) → i < 65536 → p < 65536 → q < 65536 → length (node_line i (node k p q)) ≤ 26
line_length i k p q h g f =
    subst (λ (x : List ℕ). length x ≤ 26) (sym (line_bytes i k p q))
    (simp length-append (omega (arith, digits-short 4 i (omega arith), word-length k, end-length (ltl_places k) p q g f)))

-- A number more, a space before it, whatever it is put into.
module _ {S : Type 0} (Put : S → List ℕ → S → Type 0) (join : (a b c : S) (v w : List ℕ) → Put a v b → Put b w c → Put a (v ++ w) c) where
  pub place_more : (xs : List ℕ) (i : ℕ) → i < length xs → {a b c : S} → Put a (text " ") b → Put b (digits (get_or xs i 0)) c → (d : S) → Put c (line_end (drop (i + 1) xs)) d
      → Put a (line_end (drop i xs)) d
  place_more xs i h {a} {b} {c} p q d r =
      let next : drop i xs ≡ get_or xs i 0 ∷ drop (i + 1) xs = rw add-one (drop-cons xs i 0 h) in
      let line : line_end (drop i xs) ≡ text " " ++ (digits (get_or xs i 0) ++ line_end (drop (i + 1) xs)) =
      ap line_end next ∙ ap (λ (y : List ℕ). 32 ∷ y) (append_assoc (digits (get_or xs i 0)) _ (text "\n")) in
      subst (λ (w : List ℕ). Put a w d) (sym line) (join a b d (text " ") _ p (join b c d (digits (get_or xs i 0)) _ q r))

-- A line at the front of a list with room for it.
module _ (i k p q : ℕ) (h : i < 65536) (g : p < 65536) (f : q < 65536) (l m : List ℕ) (n : ℕ) (room : length l ≡ 32) (is : m ≡ sets l 0 (node_line i (node k p q)))
    (ends : n ≡ min (length (node_line i (node k p q))) (length l)) where
  pub front_ends : n ≡ length (node_line i (node k p q))
  front_ends = omega (arith, line_length i k p q h g f)

  pub front_is : take n m ≡ node_line i (node k p q)
  front_is =
      let line = node_line i (node k p q) in
      ap (take n) (is ∙ sets-eq line l 0 (omega (arith, line_length i k p q h g f))) ∙ take_at line _ n (sym front_ends)

-- The places that a kind uses.
pub places_used : (k : Kind) (h : Use × Use) → h ≡ shape_of ltl_rules (number k) → used h.0 + used h.1 ≡ ltl_places (number k)
unfolding ltl_places
places_used k h e = ap (λ (u : Use × Use). used u.0 + used u.1) e ∙ go k
  where
    go : (k : Kind) → used (shape_of ltl_rules (number k)).0 + used (shape_of ltl_rules (number k)).1 ≡ ltl_places (number k)
    go True = refl
    go Var = refl
    go Not = refl
    go And = refl
    go Or = refl
    go Next = refl
    go Until = refl

pub few_places : (k : Kind) → ltl_places (number k) ≤ 2
unfolding ltl_places
few_places True = omega arith
few_places Var = omega arith
few_places Not = omega arith
few_places And = omega arith
few_places Or = omega arith
few_places Next = omega arith
few_places Until = omega arith

-- A number that is no kind.
pub no_kind : (k : ℕ) → 7 ≤ k → Spelled k [] 0
unfolding ltl_word ltl_places
no_kind k h =
    record {
      word = sym (get_or-eq_default (text "true" ∷ text "var" ∷ text "not" ∷ text "and" ∷ text "or" ∷ text "next" ∷ text "until" ∷ []) [] h);
      places = sym (get_or-eq_default (0 ∷ 1 ∷ 1 ∷ 2 ∷ 2 ∷ 1 ∷ 2 ∷ []) 0 h);
      most = omega arith;
    }
