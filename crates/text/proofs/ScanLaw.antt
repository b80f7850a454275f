-- What each way out of the readers of digits, numbers and words gives.
use mathlib.Core.Path.{◌≡◌, refl, ap, sym, subst, ◌∙◌}
use mathlib.Core.List.{List, [], ◌∷◌, ◌++◌, append_assoc, append_cancel_left, head-eq_of_cons-eq, tail-eq_of_cons-eq}
use Prim.Native.Nat.{ℕ, suc, ◌+◌, ◌*◌, ◌-◌, ◌<◌, ◌≤◌}
use native.Mathlib.Omega.{arith}
use native.Mathlib.Numerals.{add-one}
use lib.ListN.{length, get_or, take, drop, take-append-drop}
use lib.Seq.{take-suc, split_at}
use Rattle.text.specs.Spelling.{digits}
use mathlib.Core.Bool.{true, false, not}
use borrow.Author.Tests.{eqb-true, eqb-false}
use lib.Dec.{eqb}
use Rattle.std.specs.Prelude.{Option, Some, None, Ok, Err, slice_get}
use Rattle.std.specs.Option.{ok_or, option_eq}
use Rattle.std.proofs.lemmas.Bool.{not-true, not-false}
use Rattle.text.specs.declared.scan.Fault.{Fault}
use Rattle.std.proofs.lemmas.Option.{slice_get_within}
use Rattle.text.specs.Inner.Places.{Stands, Agree, Halts, Stops}
use Rattle.text.specs.Inner.Number.{IsDigit, NoDigit, Numeral, Numbered}
use Rattle.text.specs.Inner.Scan.{DigitRead, NumberRead}
use Rattle.text.proofs.PlaceLaw.{agree-byte, agree_less, byte-drop, drop-byte, stands_one, stands_join, stands_same, stops_here}
use Rattle.text.proofs.NumberLaw.{digits_small, digits_more, digits-first}

-- ── Digits ──

-- No digit follows where the byte there, if any, is none.
pub no_digit : (s : List ℕ) (i : ℕ) → ((b : ℕ) → slice_get s i ≡ Some b → IsDigit b → ⊥) → NoDigit (drop i s)
no_digit s i z = go (drop i s) refl
  where
    go : (x : List ℕ) → drop i s ≡ x → NoDigit x
    go [] e = tt
    go (b ∷ t) e = z b (byte-drop s i b t e)

digit_not : (s : List ℕ) (i b : ℕ) → NoDigit (drop i s) → slice_get s i ≡ Some b → IsDigit b → ⊥
digit_not s i b z e = subst NoDigit (drop-byte s i b e) z

-- It depends on the byte there alone.
pub no-digit-agree : {n : ℕ} {s s' : List ℕ} (i : ℕ) → i < n → Agree n s s' → NoDigit (drop i s) → NoDigit (drop i s')
no-digit-agree {n} {s} {s'} i h g z = no_digit s' i (λ b e. digit_not s i b z (agree-byte i h g ∙ e))

-- ── Numbers ──

module _ (s : List ℕ) (at : ℕ) where
  pub number-none : at ≤ length s → NoDigit (drop at s) → Halts Numeral Numbered s at at
  number-none h z =
      record {
        after = omega arith;
        within = h;
        begun = ([], digits 0, refl, (0, refl));
        none = λ s' g (n, t, _, e).
            let (c, x, f, d, _) = digits-first n in
            digit_not s at c z (agree-byte at (omega arith) g ∙ byte-drop s' at c (x ++ t) (e ∙ ap (λ (y : List ℕ). y ++ t) f)) d;
      }

  -- A digit after 0.
  pub number_zeros : Stands (48 ∷ []) s at (at + 1) → (d : ℕ) → d < 10 → Stands ((48 + d) ∷ []) s (at + 1) (at + 1 + 1) → Halts Numeral Numbered s at (at + 1)
  number_zeros a d k o =
      record {
        after = omega arith;
        within = a.within;
        begun = (48 ∷ [], [], a.is, (0, sym (digits_small 0 (omega arith))));
        none = λ s' g (n, t, z, e).
            let (c, x, f, dc, lead) = digits-first n in
            let v : 48 ∷ drop (at + 1) s' ≡ c ∷ (x ++ t) =
            sym (stands_same s' a (agree_less (omega arith) g)) ∙ e ∙ ap (λ (y : List ℕ). y ++ t) f in
            let zero : n ≡ 0 = lead (sym (head-eq_of_cons-eq v)) in
            let none : x ≡ [] = tail-eq_of_cons-eq (sym f ∙ ap digits zero ∙ digits_small 0 (omega arith)) in
            let next : drop (at + 1) s' ≡ t = tail-eq_of_cons-eq v ∙ ap (λ (y : List ℕ). y ++ t) none in
            let same : slice_get s' (at + 1) ≡ Some (48 + d) =
            sym (agree-byte (at + 1) (omega arith) g) ∙ byte-drop s (at + 1) (48 + d) (drop (at + 1 + 1) s) o.is in
            digit_not s' (at + 1) (48 + d) (subst NoDigit (sym next) z) same (omega arith, omega arith);
      }

  -- The digits of n have been read up to i; after a first digit 0 there are no more.
  pub record SoFar (first n i : ℕ) : Type 0 where
    pub stands : Stands (digits n) s at i
    pub more : at < i
    pub zero : first ≡ 0 → i ≡ at + 1
    pub pos : (first ≡ 0 → ⊥) → 0 < n

  pub so_far_one : {next : ℕ} (d : ℕ) → DigitRead s at next (Some d) → SoFar d (10 * 0 + d) next
  so_far_one {next} d (h, e, a) =
      let z : 10 * 0 + d ≡ d = omega arith in
      record { stands = rw (z, digits_small d h) a; more = omega (arith, e); zero = λ _. e; pos = λ n. omega arith }

  pub so_far_more : {first n i next : ℕ} (d : ℕ) → (first ≡ 0 → ⊥) → SoFar first n i → DigitRead s i next (Some d) → SoFar first (10 * n + d) next
  so_far_more {first} {n} d z a (h, e, b) =
      let p = a.pos z in
      record { stands = rw (digits_more n d p h) (stands_join a.stands b); more = omega (arith, a.more, e); zero = λ e. absurd (z e); pos = λ _. omega arith }

  -- A digit after 0.
  pub after_zero : {first n i j next : ℕ} (d : ℕ) → first ≡ 0 → DigitRead s at j (Some first) → SoFar first n i → DigitRead s i next (Some d) → Halts Numeral Numbered s at (at + 1)
  after_zero {first} {n} {i} {j} {next} d e (_, p, a) f (h, q, o) =
      let k = f.zero e in
      let z = subst (λ (c : ℕ). Stands ((48 + c) ∷ []) s at (at + 1)) e (subst (λ (x : ℕ). Stands ((48 + first) ∷ []) s at x) p a) in
      number_zeros z d h (subst (λ (x : ℕ). Stands ((48 + d) ∷ []) s x (x + 1)) k (subst (λ (x : ℕ). Stands ((48 + d) ∷ []) s i x) q o))

-- ── Words ──

-- The word's first i bytes stand, so far as the line has them: so no place overflows, wherever the reading began.
pub record Begun (w s : List ℕ) (at i : ℕ) : Type 0 where
  pub within : i ≤ length w
  pub room : i ≤ length s - at
  pub stands : at ≤ length s → Stands (take i w) s at (at + i)

module _ {w s : List ℕ} {at i : ℕ} (a : Begun w s at i) where
  pub begun_more : (b : ℕ) → i < length w → b ≡ get_or w i 0 → slice_get s (at + i) ≡ Some b → Begun w s at (i + 1)
  begun_more b h e g =
      let l = slice_get_within s (at + i) b g in
      let f : take i w ++ (b ∷ []) ≡ take (i + 1) w =
      ap (λ (c : ℕ). take i w ++ (c ∷ [])) e ∙ sym (ap (λ (j : ℕ). take j w) (add-one i) ∙ take-suc w i 0 h) in
      let n : at + i + 1 ≡ at + (i + 1) = omega arith in
      record {
        within = omega arith;
        room = omega (arith, a.room);
        stands = λ k. subst (λ (j : ℕ). Stands (take (i + 1) w) s at j) n (subst (λ (x : List ℕ). Stands x s at (at + i + 1)) f (stands_join (a.stands k) (stands_one b g)));
      }

  pub begun-part : (b : ℕ) → i < length w → b ≡ get_or w i 0 → (slice_get s (at + i) ≡ Some b → ⊥) → at ≤ length s → Stops (λ v. v ≡ w) s at (at + i)
  begun-part b h e z k =
      let o = a.stands k in
      record {
        after = o.after;
        within = o.within;
        begun = (take i w, drop i w, o.is, take-append-drop i w);
        none = λ s' g (v, t, m, d).
            let x : take i w ++ drop (at + i) s' ≡ take i w ++ (get_or w i 0 ∷ (drop (suc i) w ++ t)) =
            sym (stands_same s' o (agree_less (omega arith) g)) ∙ d
            ∙ ap (λ (y : List ℕ). y ++ t) (m ∙ split_at w i 0 h) ∙ append_assoc (take i w) (get_or w i 0 ∷ drop (suc i) w) t in
            z (agree-byte (at + i) (omega arith) g
            ∙ byte-drop s' (at + i) (get_or w i 0) (drop (suc i) w ++ t) (append_cancel_left (take i w) _ _ x)
            ∙ ap (λ (c : ℕ). Some c) (sym e));
      }

-- ── Bytes ──

pub byte_stops : (s : List ℕ) (at b : ℕ) → (slice_get s at ≡ Some b → ⊥) → at ≤ length s → Stops (λ v. v ≡ b ∷ []) s at at
byte_stops s at b z h = stops_here b h z (λ w e. ([], e)) (b ∷ []) refl

-- A digit is read, or the fault is at the place.
pub digit_read : {s : List ℕ} {at next d : ℕ} (r : Option ℕ) → DigitRead s at next r → ok_or {E = Fault} r (record { 0 = at }) ≡ Ok d → DigitRead s at next (Some d)
digit_read {s} {at} {next} {d} (Some e) h g = let q : e ≡ d = cc in subst (λ (k : ℕ). DigitRead s at next (Some k)) q h
digit_read None h g = cc

-- What a comparison with a byte tells.
pub is_byte : (x : Option ℕ) (b : ℕ) → false ≡ not (option_eq eqb x (Some b)) → x ≡ Some b
is_byte (Some a) b h = ap (λ (c : ℕ). Some c) (eqb-true a b (not-false (eqb a b) (sym h)))
is_byte None b h = cc

pub not_byte : (x : Option ℕ) (b : ℕ) → true ≡ not (option_eq eqb x (Some b)) → x ≡ Some b → ⊥
not_byte (Some a) b h e = eqb-false a b (not-true (eqb a b) (sym h)) cc
not_byte None b h e = cc

-- No digit, and the fault is at the place.
pub digit_fault : {s : List ℕ} {at : ℕ} {e : Fault} (limit next : ℕ) (r : Option ℕ) → DigitRead s at next r → ok_or {E = Fault} r (record { 0 = at }) ≡ Err e
    → NumberRead s at limit at (Err e)
digit_fault {s} {at} {e} limit next None h g =
    let q : e.0 ≡ at = cc in
    (refl, λ k. subst (Halts Numeral Numbered s at) (sym q) (number-none s at k h.0), λ _. q)
digit_fault limit next (Some d) h g = cc
