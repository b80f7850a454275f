-- What each way out of the reader of keywords gives.
use mathlib.Core.Path.{◌≡◌, refl, ap, sym, subst, ◌∙◌}
use mathlib.Core.Logic.{◌⊎◌, inl, inr}
use mathlib.Core.Bool.{Bool, true, false}
use mathlib.Core.List.{List, [], ◌∷◌, ◌++◌}
use Prim.Native.Nat.{ℕ, suc, max, ◌≤◌, ◌<◌}
use native.Mathlib.Omega.{arith}
use borrow.Author.Tests.{ltb-true, ltb-false, eqb-true, eq-eqb}
use lib.ListN.{length, drop, get_or}
use lib.Dec.{T, ltb, eqb}
use Rattle.std.specs.Prelude.{Some, slice_get, map, ◌&&◌}
use Rattle.std.proofs.lemmas.Map.Views.{any-filter_same}
use Rattle.std.proofs.lemmas.List.{get_or-map, length-map}
use Rattle.std.proofs.lemmas.List.Folds.{list_any_at}
use Rattle.std.proofs.lemmas.Option.{get_or_from_slice_get}
use Rattle.formula_lines.specs.declared.keywords.Keyword.{Keyword}
use Rattle.text.specs.Inner.Places.{Agree, Begins, Stops}
use Rattle.text.proofs.PlaceLaw.{agree_less, agree-byte, byte-drop}
use Rattle.formula_lines.specs.declared.keywords.Sort.{Sort}
use Rattle.text.proofs.WordLaw.{elem_split, elem_first, elem_last}
use Rattle.text.specs.Inner.Words.{elem}
use Rattle.formula_lines.specs.Inner.Kinds.{number, keyword, kinds}
use Rattle.formula_lines.specs.Inner.Reader.{KeywordOf, NoneOf, kinds_starting, sort_number}
use Rattle.formula_lines.proofs.FormLaw.{kind_fact}

pub none_yet : (s : List ℕ) (at : ℕ) → at ≤ length s → NoneOf [] s at at
none_yet s at h =
    record { after = omega arith; within = h; begun = ([], [], refl, inl refl); none = λ s' g (w, t, (k, m, _), _). absurd m }

-- What one of some keywords begins with, one of more keywords does.
of_more : (ks js : List ℕ) → ((k : ℕ) → T (elem k ks) → T (elem k js)) → (w : List ℕ) → (w ≡ []) ⊎ KeywordOf ks w → (w ≡ []) ⊎ KeywordOf js w
of_more ks js h w (inl e) = inl e
of_more ks js h w (inr (k, m, e)) = inr (k, h k m, e)

-- One keyword more is tried: none of ks stands up to q, and that of j none up to p.
module _ {s : List ℕ} {at p q : ℕ} (j : ℕ) (ks : List ℕ) (a : NoneOf ks s at q) (b : Stops (λ w. w ≡ keyword j) s at p) where
  neither : (r : ℕ) → p ≤ r → q ≤ r → (s' : List ℕ) → Agree (suc r) s s' → Begins (KeywordOf (ks ++ j ∷ [])) (drop at s') → ⊥
  neither r h i s' g (v, t, (k, n, d), f) =
      elim (elem_split k j ks n) [
        | inl m ↦ a.none s' (agree_less (omega arith) g) (v, t, (k, m, d), f)
        | inr e ↦ b.none s' (agree_less (omega arith) g) (v, t, d ∙ ap keyword (sym e), f)
      ]

  pub none_more : {r : ℕ} → r ≡ max q p → NoneOf (ks ++ j ∷ []) s at r
  none_more {r} e = go (ltb q p) refl
    where
      go : (c : Bool) → ltb q p ≡ c → NoneOf (ks ++ j ∷ []) s at r
      go true u =
          let d : p ≡ r = omega (arith, ltb-true q p u) in
          let (x, y, i, v) = b.begun in
          subst (NoneOf (ks ++ j ∷ []) s at) d
          (record { after = b.after; within = b.within; begun = (x, y, i, inr (j, elem_last j ks, v)); none = neither p (omega arith) (omega arith) })
      go false u =
          let d : q ≡ r = omega (arith, ltb-false q p u) in
          let (x, y, i, v) = a.begun in
          subst (NoneOf (ks ++ j ∷ []) s at) d
          (record { after = a.after; within = a.within; begun = (x, y, i, of_more ks (ks ++ j ∷ []) (λ k. elem_first k j ks) (x ++ y) v); none = neither q (omega arith) (omega arith) })

-- ── Those that begin with a byte ──

member_starting : (so b k : ℕ) → elem k (kinds_starting so b) ≡ (eqb (get_or (keyword k) 0 0) b && elem k (kinds so))
unfolding kinds_starting
member_starting so b k =
    let begins : ℕ → Bool = λ j. eqb (get_or (keyword j) 0 0) b in
    any-filter_same (λ j. eqb j k) begins (begins k) (λ j e. ap begins (eqb-true j k e)) (kinds so)

first_byte : (w t s : List ℕ) (i : ℕ) → 0 < length w → drop i s ≡ w ++ t → slice_get s i ≡ Some (get_or w 0 0)
first_byte [] t s i h e = absurd (omega arith)
first_byte (b ∷ w) t s i h e = byte-drop s i b (w ++ t) e

of_sort : (so b k : ℕ) → T (elem k (kinds_starting so b)) → T (elem k (kinds so))
of_sort so b k m = go (eqb (get_or (keyword k) 0 0) b) (subst T (member_starting so b k) m)
  where
    go : (x : Bool) → T (x && elem k (kinds so)) → T (elem k (kinds so))
    go true h = h
    go false h = absurd h

-- One of those that were tried is one of the sort.
pub found : (so b : ℕ) (xs : List Keyword) (i : ℕ) (d : Keyword) → i < length xs → map number xs ≡ kinds_starting so b → T (elem (number (get_or xs i d)) (kinds so))
found so b xs i d h e =
    let k = number (get_or xs i d) in
    let m : elem k (map number xs) ≡ true = list_any_at (λ j. eqb j k) (map number xs) i (number d) (rw (length-map xs number) h) (eq-eqb _ k (get_or-map number xs i d (number d) h)) in
    of_sort so b k (subst (λ (ks : List ℕ). T (elem k ks)) e (rw m tt))

-- Where no keyword of the sort stands that begins with the byte at the place, none does. Past the end there is no byte.
pub none_of_sort : {s : List ℕ} {at p : ℕ} (so : ℕ) → NoneOf (kinds_starting so (get_or s at 0)) s at p → NoneOf (kinds so) s at p
none_of_sort {s} {at} {p} so a =
    let (x, y, i, v) = a.begun in
    record {
      after = a.after;
      within = a.within;
      begun = (x, y, i, of_more _ _ (of_sort so (get_or s at 0)) (x ++ y) v);
      none = λ s' g (v, t, (k, m, d), f). a.none s' g (v, t, (k, starts k m s' t g (f ∙ ap (λ (w : List ℕ). w ++ t) d), d), f);
    }
  where
    starts : (k : ℕ) → T (elem k (kinds so)) → (s' t : List ℕ) → Agree (suc p) s s' → drop at s' ≡ keyword k ++ t → T (elem k (kinds_starting so (get_or s at 0)))
    starts k m s' t g e =
        let c = get_or (keyword k) 0 0 in
        let i : slice_get s at ≡ Some c = agree-byte at (omega (arith, a.after)) g ∙ first_byte (keyword k) t s' at (kind_fact so k m).word e in
        rw (member_starting so (get_or s at 0) k, eq-eqb c (get_or s at 0) (sym (get_or_from_slice_get s at c 0 i))) m

-- ── Sorts ──

pub sort_formula : (so : Sort) → (so ≡ Sort.Boolean → ⊥) → sort_number so ≡ 0 → ⊥
sort_formula Sort.Boolean z e = z refl
sort_formula Sort.Formula z e = absurd (omega (arith, e))
