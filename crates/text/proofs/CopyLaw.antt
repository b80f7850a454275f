-- Parts copied into lists: as much as has room.
use mathlib.Core.Path.{◌≡◌, refl, sym, ap, ◌∙◌}
use mathlib.Core.List.{List, [], ◌∷◌, ◌++◌, append-nil}
use Prim.Native.Nat.{ℕ, zero, suc, ◌+◌, ◌-◌, ◌≤◌, ◌<◌, min}
use native.Mathlib.Omega.{arith}
use lib.ListN.{length, get_or, take, drop, set, length-take, length-drop, drop_of_length-le}
use native.Mathlib.Decide.{dec_lt}
use lib.Seq.{sets, set_out, length-sets, take_all}
use borrow.Rule.Slice.PartMut.{put_mid, post_of, Post-is}
use Rattle.std.proofs.lemmas.List.{take_more, take-append-drop}
use Rattle.table.proofs.StoreLaw.{sets-sets}

pub copied_more : {A : Type 0} (part l m : List A) (i : ℕ) (x : A) → i < length part → x ≡ get_or part i x → m ≡ sets l 0 (take i part) → set m i x ≡ sets l 0 (take (i + 1) part)
copied_more part l m i x h e c =
    ap (λ k. set k i x) c ∙ sets-sets (take i part) (x ∷ []) l 0 i (omega (arith, length-take i part))
    ∙ ap (sets l 0) (ap (λ k. take i part ++ (k ∷ [])) e ∙ sym (take_more part i x h))

-- What has no room is left out.
sets_out : {A : Type 0} (w l : List A) (i : ℕ) → length l ≤ i → sets l i w ≡ l
sets_out [] l i h = refl
sets_out (x ∷ w) l i h = ap (λ k. sets k (suc i) w) (set_out l i x h) ∙ sets_out w l (suc i) (omega arith)

-- Where the part or the room is over, all of the part that has room is copied.
pub copied_all : {A : Type 0} (part l m : List A) (i : ℕ) → min (length part) (length l) ≤ i → m ≡ sets l 0 (take i part) → m ≡ sets l 0 part
copied_all part l m i e c = c ∙ go (dec_lt i (length part))
  where
    go : Dec (i < length part) → sets l 0 (take i part) ≡ sets l 0 part
    go (yes h) =
        sym (sets_out (drop i part) (sets l 0 (take i part)) i (omega (arith, length-sets l 0 (take i part))))
        ∙ sets-sets (take i part) (drop i part) l 0 i (omega (arith, length-take i part))
        ∙ ap (sets l 0) (take-append-drop i part)
    go (no h) = ap (sets l 0) (take_all i part (omega arith))

sets-cons : (w l : List ℕ) (x i : ℕ) → sets (x ∷ l) (suc i) w ≡ x ∷ sets l i w
sets-cons [] l x i = refl
sets-cons (v ∷ w) l x i = sets-cons w (set l i v) x (suc i)

-- Stores from a place on are stores at the start of the rest.
sets_rest : (w l : List ℕ) (i : ℕ) → i ≤ length l → take i l ++ sets (drop i l) 0 w ≡ sets l i w
sets_rest w l zero h = refl
sets_rest w [] (suc i) h = absurd (omega arith)
sets_rest w (x ∷ l) (suc i) h = ap (λ (y : List ℕ). x ∷ y) (sets_rest w l i (omega arith)) ∙ sym (sets-cons w l x i)

-- The rest of a list from a place on, lent and given back with a copy at its start.
pub put_rest : (w l m : List ℕ) (i : ℕ) → i ≤ length l → m ≡ sets (take (length l - i) (drop i l)) 0 w → put_mid i (length l - i) l m ≡ sets l i w
put_rest w l m i h e =
    let whole : take (length l - i) (drop i l) ≡ drop i l = take_all (length l - i) (drop i l) (omega (arith, length-drop i l)) in
    let none : post_of i (length l - i) l ≡ [] = Post-is i (length l) l h ∙ drop_of_length-le l (omega arith) in
    ap (λ (y : List ℕ). take i l ++ (m ++ y)) none ∙ ap (λ (y : List ℕ). take i l ++ y) (append-nil m ∙ e ∙ ap (λ (y : List ℕ). sets y 0 w) whole) ∙ sets_rest w l i h
