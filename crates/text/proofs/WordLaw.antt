-- Words of which none begins another: which one stands is told by the bytes.
use mathlib.Core.Path.{◌≡◌, refl, sym, subst}
use mathlib.Core.Bool.{Bool, true, false, cond, ◌||◌}
use mathlib.Core.Logic.{◌⊎◌, inl, inr}
use mathlib.Core.List.{List, [], ◌∷◌, ◌++◌, head-eq_of_cons-eq, tail-eq_of_cons-eq}
use Prim.Native.Nat.{ℕ}
use borrow.Author.Tests.{eqb-true, eqb-false, eq-eqb}
use lib.Dec.{T, eqb}
use lib.ListN.{get_or}
use Rattle.std.specs.List.{list_all, Contains, AllByRecursion}
use Rattle.std.proofs.lemmas.List.Elements.{All-from_recursion, All-contains}
use Rattle.std.proofs.lemmas.List.Folds.{Any-from_list_any, list_any-append}
use Rattle.std.proofs.lemmas.List.Sums.{AllPass-from_list_all}
use Rattle.text.specs.Inner.Words.{elem}

-- ── Members of a list ──

passed : (b : Bool) → T b → b ≡ true
passed true h = refl
passed false h = absurd h

member : (k : ℕ) (ks : List ℕ) → T (elem k ks) → Contains ks k
member k ks m =
    let (i, x, low, at, e) = Any-from_list_any (λ j. eqb j k) ks (passed (elem k ks) m) in
    (i, low, subst (λ (y : ℕ). get_or ks i y ≡ y) (eqb-true x k e) at)

-- What holds of each member.
pub all_elem : (P : ℕ → Type 0) (ks : List ℕ) → AllByRecursion P ks → (k : ℕ) → T (elem k ks) → P k
all_elem P ks a k m = All-contains P ks k (All-from_recursion P ks a) (member k ks m)

-- A member of a list with one more at its end is one of the list or the last.
module _ (k j : ℕ) (ks : List ℕ) where
  more : elem k (ks ++ j ∷ []) ≡ (elem k ks || elem k (j ∷ []))
  more = list_any-append (λ i. eqb i k) ks (j ∷ [])

  pub elem_split : T (elem k (ks ++ j ∷ [])) → T (elem k ks) ⊎ (j ≡ k)
  elem_split m = go (elem k ks) (eqb j k) refl (subst T more m)
    where
      go : (a b : Bool) → eqb j k ≡ b → T (a || (b || false)) → T a ⊎ (j ≡ k)
      go true b e h = inl tt
      go false true e h = inr (eqb-true j k e)
      go false false e h = absurd h

  pub elem_first : T (elem k ks) → T (elem k (ks ++ j ∷ []))
  elem_first m = subst T (sym more) (go (elem k ks) m)
    where
      go : (a : Bool) → T a → T (a || elem k (j ∷ []))
      go true h = tt
      go false h = absurd h

pub elem_last : (j : ℕ) (ks : List ℕ) → T (elem j (ks ++ j ∷ []))
elem_last j ks = subst T (sym (more j j ks)) (go (elem j ks) (eqb j j) (eq-eqb j j refl))
  where
    go : (a b : Bool) → b ≡ true → T (a || (b || false))
    go true b e = tt
    go false b e = rw e tt

-- ── Words that are apart ──

-- Two words differ at a byte that both have.
abbrev apart : List ℕ → List ℕ → Bool
apart [] v = false
apart (a ∷ w) [] = false
apart (a ∷ w) (b ∷ v) = cond (eqb a b) (apart w v) true

apart_never : (w v t u : List ℕ) → T (apart w v) → w ++ t ≡ v ++ u → ⊥
apart_never [] v t u h e = h
apart_never (a ∷ w) [] t u h e = h
apart_never (a ∷ w) (b ∷ v) t u h e = go (eqb a b) refl h (λ g. apart_never w v t u g (tail-eq_of_cons-eq e))
  where
    go : (x : Bool) → eqb a b ≡ x → T (cond x (apart w v) true) → (T (apart w v) → ⊥) → ⊥
    go true y g f = f g
    go false y g f = eqb-false a b y (head-eq_of_cons-eq e)

-- Every two words of some kinds are of one kind or apart.
abbrev pub Distinct : (ℕ → List ℕ) → List ℕ → Type 0
Distinct word ks = T (list_all (λ k. list_all (λ j. eqb k j || apart (word k) (word j)) ks) ks)

pub word_unique : (word : ℕ → List ℕ) (ks : List ℕ) → Distinct word ks → (k j : ℕ) → T (elem k ks) → T (elem j ks)
    → (t u : List ℕ) → word k ++ t ≡ word j ++ u → k ≡ j
word_unique word ks d k j mk mj t u e =
    let rows = AllPass-from_list_all (λ i. list_all (λ j. eqb i j || apart (word i) (word j)) ks) ks (passed _ d) in
    let row = All-contains (λ i. list_all (λ j. eqb i j || apart (word i) (word j)) ks ≡ true) ks k rows (member k ks mk) in
    let both = AllPass-from_list_all (λ i. eqb k i || apart (word k) (word i)) ks row in
    go (eqb k j) refl (All-contains (λ i. (eqb k i || apart (word k) (word i)) ≡ true) ks j both (member j ks mj))
  where
    go : (b : Bool) → eqb k j ≡ b → (b || apart (word k) (word j)) ≡ true → k ≡ j
    go true y h = eqb-true k j y
    go false y h = absurd (apart_never (word k) (word j) t u (subst T (sym h) tt) e)
