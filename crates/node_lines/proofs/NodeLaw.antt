-- What each way out of the writer of a node line gives.
use Rattle.std.specs.Prelude.{Result, Ok, Err}
use Rattle.trace.specs.declared.refusal.Refusal.TheVariants.{LtlLength, LineRoom}
use mathlib.Core.Path.{◌≡◌, refl, ap, sym, subst, ◌∙◌}
use mathlib.Core.Bool.{false}
use mathlib.Core.Option.{Option, none, some}
use mathlib.Core.List.{List, [], ◌∷◌, ◌++◌, map, append_assoc, append_cancel_left, head-eq_of_cons-eq, tail-eq_of_cons-eq}
use Prim.Native.Nat.{ℕ, zero, suc, ◌<◌, ◌≤◌}
use native.Mathlib.Omega.{arith}
use borrow.Author.Tests.{lt-ltb, le-ltb, ltb-true}
use lib.ListN.{length, take}
use lib.Seq.{sets}
use lib.Dec.{T, ltb}
use Rattle.trace.specs.declared.refusal.Refusal.{Refusal}
use Rattle.table.specs.Node.{Node, node}
use Rattle.table.specs.Answer.{checked}
use Rattle.table.specs.Rules.{known, shape_of}
use Rattle.table.specs.Check.{node_refusal}
use Rattle.table.proofs.CheckLaw.{unless-none, accepted, was_refused, Fits, places_fit}
use Rattle.table.proofs.KindLaw.{◌⨾◌, each}
use Rattle.ltl.specs.Check.{ltl_rules}
use Rattle.text.specs.Text.{text}
use Rattle.text.specs.Spelling.{digits, ending}
use Rattle.node_lines.specs.Spelling.{ltl_word, ltl_places, node_line}
use Rattle.node_lines.specs.NodeAnswer.{node_fault, answer_to, node_answer, node_list}
use Rattle.text.specs.Inner.Words.{elem}
use Rattle.text.proofs.NumberLaw.{digits_unique, ending_unique}
use Rattle.text.proofs.WordLaw.{Distinct, word_unique}

-- The answer x and the list m.
abbrev pub Answers : ℕ → Node → List ℕ → Result ℕ Refusal → List ℕ → Type 0
Answers i n l x m = (x ≡ node_answer i n (length l)) × (m ≡ node_list x (node_line i n) l)

answers : (i : ℕ) (n : Node) (l m : List ℕ) (x : Result ℕ Refusal) (o : Option Refusal) → node_fault i n ≡ o → x ≡ answer_to o (node_line i n) (length l)
    → m ≡ node_list x (node_line i n) l → Answers i n l x m
answers i n l m x o e v w = (v ∙ ap (λ (y : Option Refusal). answer_to y (node_line i n) (length l)) (sym e), w)

kind-low : (i k p q : ℕ) → node_refusal ltl_rules i (node k p q) false false ≡ none → k < 7
unfolding node_refusal
kind-low i k p q e = ltb-true k 7 (unless-none (known ltl_rules k) _ _ e).0

module _ (i k p q : ℕ) (l : List ℕ) where
  pub own_large : ltl_rules.most ≤ i → Answers i (node k p q) l (Err LtlLength) l
  own_large h = answers i (node k p q) l l (Err LtlLength) (some LtlLength) (rw (le-ltb i ltl_rules.most h)) refl refl

  module _ (h : i < ltl_rules.most) (a : Result (Unit {0}) Refusal) (e : a ≡ checked (node_refusal ltl_rules i (node k p q) false false)) where
    fault : node_fault i (node k p q) ≡ node_refusal ltl_rules i (node k p q) false false
    fault = rw (lt-ltb i ltl_rules.most h)

    pub faulty : (x : Refusal) → a ≡ Err x → Answers i (node k p q) l (Err x) l
    faulty x d = answers i (node k p q) l l (Err x) (some x) (fault ∙ was_refused _ a x e d) refl refl

    module _ (d : a ≡ Ok tt) where
      sound : node_refusal ltl_rules i (node k p q) false false ≡ none
      sound = accepted _ a e d

      pub low : k < 7
      low = kind-low i k p q sound

      pub no_room : length l < length (node_line i (node k p q)) → Answers i (node k p q) l (Err LineRoom) l
      no_room g = answers i (node k p q) l l (Err LineRoom) none (fault ∙ sound) (rw (lt-ltb (length l) (length (node_line i (node k p q))) g)) refl

      pub line_written : (n : ℕ) → n ≡ length (node_line i (node k p q)) → n ≤ length l → {m : List ℕ} → m ≡ sets l 0 (node_line i (node k p q)) → Answers i (node k p q) l (Ok n) m
      line_written n f g e =
          answers i (node k p q) l _ (Ok n) none (fault ∙ sound)
          (ap (λ (z : ℕ). Ok z) f ∙ rw (le-ltb (length l) (length (node_line i (node k p q))) (omega (arith, f))) refl)
          e

-- ── No two nodes are spelled alike ──

abbrev ltl_kinds : List ℕ
ltl_kinds = 0 ∷ 1 ∷ 2 ∷ 3 ∷ 4 ∷ 5 ∷ 6 ∷ []

ltl_distinct : Distinct ltl_word ltl_kinds
unfolding ltl_word
ltl_distinct = tt

a_kind : (k : ℕ) → k < 7 → T (elem k ltl_kinds)
a_kind = each (λ k. T (elem k ltl_kinds)) 7 (tt ⨾ tt ⨾ tt ⨾ tt ⨾ tt ⨾ tt ⨾ tt ⨾ tt)

-- The places that are not used hold 0.
abbrev Tidy : ℕ → ℕ → ℕ → Type 0
Tidy zero p q = (p ≡ 0) × (q ≡ 0)
Tidy (suc zero) p q = q ≡ 0
Tidy (suc (suc n)) p q = Unit {0}

tidy : (i k p q : ℕ) → k < 7 → Fits ltl_rules (shape_of ltl_rules k).0 p i false → Fits ltl_rules (shape_of ltl_rules k).1 q i false → Tidy (ltl_places k) p q
unfolding ltl_places
tidy i k p q =
    each (λ k. Fits ltl_rules (shape_of ltl_rules k).0 p i false → Fits ltl_rules (shape_of ltl_rules k).1 q i false → Tidy (ltl_places k) p q) 7
    ((λ a b. (omega (arith, a.low), omega (arith, b.low)))
    ⨾ (λ a b. omega (arith, b.low))
    ⨾ (λ a b. omega (arith, b.low))
    ⨾ (λ a b. tt)
    ⨾ (λ a b. tt)
    ⨾ (λ a b. omega (arith, b.low))
    ⨾ (λ a b. tt)
    ⨾ tt) k

same-places : (n p q p' q' : ℕ) → Tidy n p q → Tidy n p' q' → take n (p ∷ q ∷ []) ≡ take n (p' ∷ q' ∷ []) → (p ≡ p') × (q ≡ q')
same-places zero p q p' q' (a, b) (c, d) e = (a ∙ sym c, b ∙ sym d)
same-places (suc zero) p q p' q' b d e = (head-eq_of_cons-eq e, b ∙ sym d)
same-places (suc (suc n)) p q p' q' _ _ e = (head-eq_of_cons-eq e, head-eq_of_cons-eq (tail-eq_of_cons-eq e))

is_tidy : (i k p q : ℕ) → node_fault i (node k p q) ≡ none → (k < 7) × Tidy (ltl_places k) p q
unfolding node_refusal
is_tidy i k p q e =
    let d = (unless-none (ltb i ltl_rules.most) LtlLength _ e).1 in
    let low = kind-low i k p q d in
    let (a, b) = places_fit ltl_rules (shape_of ltl_rules k) i p q false false (unless-none (known ltl_rules k) _ _ d).1 in
    (low, tidy i k p q low a b)

pub node_injective : (i j : ℕ) (m n : Node) → node_fault i m ≡ none → node_fault j n ≡ none → node_line i m ≡ node_line j n → (i ≡ j) × (m ≡ n)
node_injective i j (node k p q) (node k' p' q') a b e =
    let (own, d) =
    digits_unique i j _ _ (λ x. omega (arith, x)) (λ x. omega (arith, x))
    (sym (append_assoc (digits i) _ (text "\n")) ∙ tail-eq_of_cons-eq e ∙ append_assoc (digits j) _ (text "\n")) in
    let f = sym (append_assoc (ltl_word k) _ (text "\n")) ∙ tail-eq_of_cons-eq d ∙ append_assoc (ltl_word k') _ (text "\n") in
    let kind = word_unique ltl_word ltl_kinds ltl_distinct k k' (a_kind k (is_tidy i k p q a).0) (a_kind k' (is_tidy j k' p' q' b).0) _ _ f in
    let g = append_cancel_left (ltl_word k) _ _ (f ∙ ap (λ (x : ℕ). ltl_word x ++ (ending (map digits (take (ltl_places x) (p' ∷ q' ∷ []))) ++ text "\n")) (sym kind)) in
    let (used, _) = ending_unique (take (ltl_places k) (p ∷ q ∷ [])) (take (ltl_places k) (p' ∷ q' ∷ [])) _ _ g in
    let (left, right) =
    same-places (ltl_places k) p q p' q' (is_tidy i k p q a).1 (subst (λ (x : ℕ). Tidy (ltl_places x) p' q') (sym kind) (is_tidy j k' p' q' b).1) used in
    (own, ap (λ (x : ℕ). node x p q) kind ∙ ap (λ (x : ℕ). node k' x q) left ∙ ap (node k' p') right)
