-- Laws of places: what stands in a line, and where a reader has to stop.
use mathlib.Core.Path.{◌≡◌, refl, ap, sym, subst, ◌∙◌}
use mathlib.Core.List.{List, [], ◌∷◌, ◌++◌, append_assoc, append-nil, append_cancel_right, head-eq_of_cons-eq}
use Prim.Native.Nat.{ℕ, zero, suc, ◌+◌, ◌<◌, ◌≤◌}
use native.Mathlib.Omega.{arith}
use native.Mathlib.Numerals.{add-one}
use lib.ListN.{length, take, drop, take-append-drop, length-append, length-take, length-drop}
use lib.Seq.{drop-cons, take-take, drop-append-le, length-take-le}
use Rattle.std.specs.Prelude.{Some, slice_get}
use Rattle.std.proofs.lemmas.Option.{slice_get_within, get_or_from_slice_get}
use Rattle.text.specs.Inner.Places.{Stands, Agree, Language, Begins, Halts, Stops, StopsLine, Only}

-- ── Bytes ──

pub agree_self : (n : ℕ) (s : List ℕ) → Agree n s s
agree_self n s = record { is = refl }

pub agree_less : {n m : ℕ} {s s' : List ℕ} → m ≤ n → Agree n s s' → Agree m s s'
agree_less {n} {m} {s} {s'} h e = record { is = sym (take-take m n s h) ∙ ap (take m) e.is ∙ take-take m n s' h }

get-take : (n : ℕ) (l : List ℕ) (i : ℕ) → i < n → slice_get (take n l) i ≡ slice_get l i
get-take zero l i h = absurd (omega arith)
get-take (suc n) [] i h = refl
get-take (suc n) (x ∷ l) zero h = refl
get-take (suc n) (x ∷ l) (suc i) h = get-take n l i (omega arith)

pub agree-byte : {n : ℕ} {s s' : List ℕ} (i : ℕ) → i < n → Agree n s s' → slice_get s i ≡ slice_get s' i
agree-byte {n} {s} {s'} i h e = sym (get-take n s i h) ∙ ap (λ (l : List ℕ). slice_get l i) e.is ∙ get-take n s' i h

-- The first byte of what follows a place.
pub byte-drop : (s : List ℕ) (i b : ℕ) (t : List ℕ) → drop i s ≡ b ∷ t → slice_get s i ≡ Some b
byte-drop [] zero b t e = absurd (omega (arith, ap length e))
byte-drop [] (suc i) b t e = absurd (omega (arith, ap length e))
byte-drop (x ∷ s) zero b t e = ap (λ (c : ℕ). Some c) (head-eq_of_cons-eq e)
byte-drop (x ∷ s) (suc i) b t e = byte-drop s i b t e

pub drop-byte : (s : List ℕ) (i b : ℕ) → slice_get s i ≡ Some b → drop i s ≡ b ∷ drop (i + 1) s
drop-byte s i b e = rw add-one (drop-cons s i b (slice_get_within s i b e)) ∙ ap (λ (c : ℕ). c ∷ drop (i + 1) s) (get_or_from_slice_get s i b b e)

-- ── What stands ──

pub stands_one : {s : List ℕ} {i : ℕ} (b : ℕ) → slice_get s i ≡ Some b → Stands (b ∷ []) s i (i + 1)
stands_one {s} {i} b e =
    let h = slice_get_within s i b e in
    record { is = drop-byte s i b e; after = omega arith; within = omega arith }

pub stands_join : {v w s : List ℕ} {i j k : ℕ} → Stands v s i j → Stands w s j k → Stands (v ++ w) s i k
stands_join {v} {w} {s} {i} {j} {k} a b =
    record {
      is = a.is ∙ ap (λ (l : List ℕ). v ++ l) b.is ∙ sym (append_assoc v w (drop k s));
      after = omega arith;
      within = b.within;
    }

-- It stands in every line that has the same bytes before its end.
pub stands_same : {w s : List ℕ} {i j : ℕ} (s' : List ℕ) → Stands w s i j → Agree j s s' → drop i s' ≡ w ++ drop j s'
stands_same {w} {s} {i} {j} s' a g =
    let e = g.is in
    let l = length-take-le j s a.within in
    let l' : length (take j s') ≡ j = ap length (sym e) ∙ l in
    let part : (x : List ℕ) → length (take j x) ≡ j → drop i x ≡ drop i (take j x) ++ drop j x =
    λ x n. ap (drop i) (sym (take-append-drop j x)) ∙ drop-append-le i (take j x) (drop j x) (omega (arith, a.after, n)) in
    let is : w ≡ drop i (take j s) = append_cancel_right w (drop i (take j s)) (drop j s) (sym a.is ∙ part s l) in
    part s' l' ∙ ap (λ (x : List ℕ). drop i x ++ drop j s') (sym e) ∙ ap (λ (x : List ℕ). x ++ drop j s') (sym is)

-- ── Where a reader stops ──

-- At once, where every word of the language begins with another byte.
pub stops_here : {L : Language} {s : List ℕ} {i : ℕ} (b : ℕ) → i ≤ length s → (slice_get s i ≡ Some b → ⊥)
    → ((w : List ℕ) → L w → (x : List ℕ) × (w ≡ b ∷ x)) → (w : List ℕ) → L w → Stops L s i i
stops_here {L} {s} {i} b h z heads w l =
    record {
      after = omega arith;
      within = h;
      begun = ([], w, refl, l);
      none = λ s' g (v, t, m, e).
          let (x, d) = heads v m in
          z (agree-byte i (omega arith) g ∙ byte-drop s' i b (x ++ t) (e ∙ ap (λ (y : List ℕ). y ++ t) d));
    }

-- In the first part of a word.
pub halts-first : {L M Q R : Language} {s : List ℕ} {i p : ℕ} → Halts M Q s i p → ((w : List ℕ) → M w → (x : List ℕ) × L (w ++ x))
    → ((s' : List ℕ) → Agree (suc p) s s' → R (drop i s') → Q (drop i s')) → Halts L R s i p
halts-first {L} {M} {Q} {R} {s} {i} {p} a inc dec =
    let (q, r, e, m) = a.begun in
    let (x, l) = inc (q ++ r) m in
    record {
      after = a.after;
      within = a.within;
      begun = (q, r ++ x, e, subst L (append_assoc q r x) l);
      none = λ s' g l'. a.none s' g (dec s' g l');
    }

-- A line that begins with a word begins with the word's first part.
pub begins-first : {L M : Language} → ((w : List ℕ) → L w → Begins M w) → {x : List ℕ} → Begins L x → Begins M x
begins-first dec (w, t, l, d) =
    let (y, z, n, u) = dec w l in
    (y, z ++ t, n, d ∙ ap (λ (v : List ℕ). v ++ t) u ∙ append_assoc y z t)

-- Where a byte can't stand with which every word of the language begins.
pub stops_first : {L : Language} {s : List ℕ} {i p b : ℕ} → Stops (Only b) s i p → ((w : List ℕ) → L w → (x : List ℕ) × (w ≡ b ∷ x))
    → (w : List ℕ) → L w → Stops L s i p
stops_first {L} {s} {i} {p} {b} a heads w l =
    let (x, e) = heads w l in
    halts-first a (λ v d. (x, subst L (e ∙ sym (ap (λ (y : List ℕ). y ++ x) d)) l))
    (λ s' g. begins-first (λ v m. let (y, d) = heads v m in (b ∷ [], y, refl, d)))

-- After a part that stands.
pub halts-after : {L M Q R : Language} {v s : List ℕ} {i j p : ℕ} → Stands v s i j → Halts M Q s j p → ((w : List ℕ) → M w → L (v ++ w))
    → ((s' : List ℕ) → Agree (suc p) s s' → R (v ++ drop j s') → Q (drop j s')) → Halts L R s i p
halts-after {L} {M} {Q} {R} {v} {s} {i} {j} {p} a b inc dec =
    let (q, r, e, m) = b.begun in
    record {
      after = omega (arith, a.after, b.after);
      within = b.within;
      begun = (
        v ++ q,
        r,
        a.is ∙ ap (λ (l : List ℕ). v ++ l) e ∙ sym (append_assoc v q (drop p s)),
        subst L (sym (append_assoc v q r)) (inc (q ++ r) m),
      );
      none = λ s' g l. b.none s' g (dec s' g (subst R (stands_same s' a (agree_less (omega (arith, b.after)) g)) l));
    }

-- Where no word stands, no line is one.
pub stops_line : {L : Language} {s : List ℕ} {i p : ℕ} → Stops L s i p → StopsLine L s i p
stops_line {L} {s} {i} a =
    record {
      after = a.after;
      within = a.within;
      begun = a.begun;
      none = λ s' g l. a.none s' g (drop i s', [], l, sym (append-nil (drop i s')));
    }

-- Where the line had to end.
abbrev pub Nothing : Language
Nothing w = w ≡ []

pub stops_end : (s : List ℕ) (i : ℕ) → i < length s → StopsLine Nothing s i i
stops_end s i h =
    record {
      after = omega arith;
      within = omega arith;
      begun = ([], [], refl, refl);
      none = λ s' g e.
          let l = length-take-le (suc i) s h in
          omega (arith, l, ap length g.is, length-take (suc i) s', length-drop i s', ap length e);
    }

-- A word that stands ends as many places on as it has bytes.
pub stands_end : {w s : List ℕ} {i j : ℕ} → Stands w s i j → j ≡ i + length w
stands_end {w} {s} {i} {j} a =
    omega (arith, a.after, a.within, ap length a.is, length-append w (drop j s), length-drop i s, length-drop j s)
