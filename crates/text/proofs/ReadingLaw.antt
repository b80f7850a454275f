-- Laws of readings, for any way of spelling: where a reader stops is where the line breaks, and a line has one reading.
use mathlib.Core.Path.{◌≡◌, refl, ap, sym, subst, ◌∙◌}
use mathlib.Core.Option.{Option, some}
use mathlib.Core.List.{List, [], ◌++◌, append_assoc, append-nil}
use Prim.Native.Nat.{ℕ, suc, ◌+◌, ◌≤◌, ◌<◌}
use native.Mathlib.Decide.{dec_lt}
use native.Mathlib.Omega.{arith}
use lib.ListN.{length, take, drop, take-append-drop, length-append, length-drop, length-take}
use lib.Seq.{sets, sets-eq, take_at, take-take, take_all}
use Rattle.trace.specs.declared.refusal.Refusal.{Refusal}
use Rattle.trace.specs.declared.refusal.Refusal.TheVariants.{Shape}
use mathlib.Core.Option.{some-ne-none, some-injective}
use Rattle.std.specs.Prelude.{Option as Maybe, None, Some}
use Rattle.trace.specs.Refusal.{place}
use Rattle.text.specs.Limits.{most_bytes, front}
use Rattle.text.specs.Reading.{Begun, Breaks, off, cut, Reading, long, breaks, spells, line_refusal, Takes, Refuses}
use Rattle.text.specs.Inner.Places.{Language, StopsLine}

-- ── Where a line breaks ──

-- The language L of a reader is that of the lines of some x.
pub breaks-at : {X : Type 0} {spelled : X → List ℕ} {L : Language} {s : List ℕ} {p : ℕ} → ((w : List ℕ) → L w → (x : X) × (w ≡ spelled x))
    → ((x : X) → L (spelled x)) → StopsLine L s 0 p → Breaks spelled s p
breaks-at {X} {spelled} {L} {s} {p} inc dec a =
    let (q, r, e, l) = a.begun in
    let (x, d) = inc (q ++ r) l in
    let n : length q ≡ p = omega (arith, ap length e, length-append q (drop p s), length-drop p s, a.within) in
    let front : take p s ≡ q = ap (take p) e ∙ take_at q (drop p s) p n in
    elim (dec_lt p (length s)) [
      | yes h ↦
          off
          record {
            inside = h;
            before = (x, r, sym d ∙ ap (λ (w : List ℕ). w ++ r) (sym front));
            after = λ (y, t, f). a.none (spelled y) (record { is = sym (ap (take (suc p)) f ∙ take_at (take (suc p) s) t (suc p) (omega (arith, length-take (suc p) s))) }) (dec y);
          }
      | no h ↦
          let whole : take p s ≡ s = take_all p s (omega arith) in
          cut
          record {
            place = omega (arith, a.within);
            begun = (x, r, sym d ∙ ap (λ (w : List ℕ). w ++ r) (sym front ∙ whole));
            unfinished = λ y f. a.none s (record { is = refl }) (subst L (sym f) (dec y));
          }
    ]

-- ── One reading ──

module _ {X : Type 0} (spelled : X → List ℕ) where
  -- A line that begins with w begins with less of it.
  begins_less : (w : List ℕ) (n : ℕ) → Begun spelled w → Begun spelled (take n w)
  begins_less w n (x, t, e) = (x, drop n w ++ t, e ∙ ap (λ (v : List ℕ). v ++ t) (sym (take-append-drop n w)) ∙ append_assoc (take n w) (drop n w) t)

  broken_spells : {s : List ℕ} {p : ℕ} → Breaks spelled s p → (x : X) → s ≡ spelled x → ⊥
  broken_spells {s} {p} (off b) x e = b.after (begins_less s (suc p) (x, [], sym e ∙ sym (append-nil s)))
  broken_spells (cut b) x e = b.unfinished x e

  -- Where it breaks off, no line begins with more of it.
  broken_before : {s : List ℕ} {p q : ℕ} → Breaks spelled s p → Breaks spelled s q → p < q → ⊥
  broken_before {s} {p} {q} (off b) (off c) h = b.after (subst (Begun spelled) (take-take (suc p) q s h) (begins_less (take q s) (suc p) c.before))
  broken_before {s} {p} {q} (off b) (cut c) h = b.after (begins_less s (suc p) c.begun)
  broken_before {s} {p} {q} (cut b) (off c) h = absurd (omega (arith, b.place, c.inside))
  broken_before {s} {p} {q} (cut b) (cut c) h = absurd (omega (arith, b.place, c.place))

  pub broken_alone : {s : List ℕ} {p q : ℕ} → Breaks spelled s p → Breaks spelled s q → p ≡ q
  broken_alone {s} {p} {q} b c = elim (dec_lt p q) [ yes h ↦ absurd (broken_before b c h) | no h ↦ elim (dec_lt q p) [ yes i ↦ absurd (broken_before c b i) | no i ↦ omega arith ] ]

  module _ (one : (x y : X) → spelled x ≡ spelled y → x ≡ y) (limits : X → Option Refusal) where
    -- Two readings of a line are refused alike.
    pub reading_alone : {s : List ℕ} (R S : Reading spelled s) → line_refusal limits R ≡ line_refusal limits S
    reading_alone (long h) (long i) = refl
    reading_alone (long h) (breaks i p b) = absurd (omega arith)
    reading_alone (long h) (spells i x e) = absurd (omega arith)
    reading_alone (breaks h p b) (long i) = absurd (omega arith)
    reading_alone (breaks h p b) (breaks i q c) = ap (λ (r : ℕ). some (Shape r)) (broken_alone b c)
    reading_alone (breaks h p b) (spells i x e) = absurd (broken_spells b x e)
    reading_alone (spells h x e) (long i) = absurd (omega arith)
    reading_alone (spells h x e) (breaks i p b) = absurd (broken_spells b x e)
    reading_alone (spells h x e) (spells i y f) = ap limits (one x y (sym e ∙ f))

    module _ {s : List ℕ} where
      pub taken_alone : {x y : X} → Takes spelled limits s x → Takes spelled limits s y → x ≡ y
      taken_alone {x} {y} a b = one x y (sym a.is ∙ b.is)

      pub not_both : {x : X} {e : Refusal} → Takes spelled limits s x → Refuses spelled limits s e → ⊥
      not_both {x} {e} a b = some-ne-none _ (sym b.reason ∙ reading_alone b.reading (spells a.short x a.is) ∙ a.within)

      pub refused_alone : {d e : Refusal} → Refuses spelled limits s d → Refuses spelled limits s e → d ≡ e
      refused_alone a b = let q = sym a.reason ∙ reading_alone a.reading b.reading ∙ b.reason in cc

-- ── The place that a refusal carries ──

pub breaks_within : {X : Type 0} {spelled : X → List ℕ} {s : List ℕ} {p : ℕ} → Breaks spelled s p → p ≤ length s
breaks_within (off b) = omega (arith, b.inside)
breaks_within (cut b) = omega (arith, b.place)

-- Where the limits carry none, it is where the line breaks.
pub refused_place : {X : Type 0} {spelled : X → List ℕ} {limits : X → Option Refusal} → ((x : X) (r : Refusal) → limits x ≡ some r → place r ≡ None) → {s : List ℕ} {e : Refusal}
    → Refuses spelled limits s e → (p : ℕ) → place e ≡ Some p → (length s ≤ most_bytes) × (e ≡ Shape p) × Breaks spelled s p
refused_place {X} {spelled} {limits} none-placed {s} {e} a p h = go a.reading a.reason
  where
    go : (R : Reading spelled s) → line_refusal limits R ≡ some e → (length s ≤ most_bytes) × (e ≡ Shape p) × Breaks spelled s p
    go (long i) d = let z : ◌≡◌ {A = Maybe ℕ} None (Some p) = ap place (some-injective _ _ d) ∙ h in cc
    go (breaks i q b) d =
        let f : Shape q ≡ e = some-injective _ _ d in
        let z : ◌≡◌ {A = Maybe ℕ} (Some q) (Some p) = ap place f ∙ h in
        let y : q ≡ p = cc in
        (i, sym f ∙ ap (λ (n : ℕ). Shape n) y, subst (Breaks spelled s) y b)
    go (spells i x g) d = let z : ◌≡◌ {A = Maybe ℕ} None (Some p) = sym (none-placed x e d) ∙ h in cc

pub place_within : {X : Type 0} {spelled : X → List ℕ} {limits : X → Option Refusal} → ((x : X) (r : Refusal) → limits x ≡ some r → place r ≡ None) → {s : List ℕ} {e : Refusal}
    → Refuses spelled limits s e → (p : ℕ) → place e ≡ Some p → p ≤ most_bytes
place_within none-placed a p h = let (short, _, b) = refused_place none-placed a p h in omega (arith, breaks_within b)

-- ── Other limits, and a line that is cut ──

module _ {X : Type 0} {spelled : X → List ℕ} {g h : X → Option Refusal} (same : (x : X) → g x ≡ h x) {s : List ℕ} where
  pub takes_by : {x : X} → Takes spelled g s x → Takes spelled h s x
  takes_by {x} a = record { short = a.short; is = a.is; within = sym (same x) ∙ a.within }

  pub refuses_by : {e : Refusal} → Refuses spelled g s e → Refuses spelled h s e
  refuses_by {e} a = record { reading = a.reading; reason = go a.reading ∙ a.reason }
    where
      go : (R : Reading spelled s) → line_refusal h R ≡ line_refusal g R
      go (long i) = refl
      go (breaks i p b) = refl
      go (spells i x d) = sym (same x)

cut_all : (s : List ℕ) (n : ℕ) → most_bytes < n → length (take n s) ≤ most_bytes → take n s ≡ s
cut_all s n m h = take_all n s (omega (arith, h, length-take n s))

-- The first n bytes, more than a line may have, are read as the whole line is.
module _ {X : Type 0} {spelled : X → List ℕ} {limits : X → Option Refusal} (s : List ℕ) (n : ℕ) (m : most_bytes < n) where
  pub takes-cut : {x : X} → Takes spelled limits (take n s) x → Takes spelled limits s x
  takes-cut {x} a = subst (λ (w : List ℕ). Takes spelled limits w x) (cut_all s n m a.short) a

  pub refuses-cut : {e : Refusal} → Refuses spelled limits (take n s) e → Refuses spelled limits s e
  refuses-cut {e} a = go a.reading a.reason
    where
      go : (R : Reading spelled (take n s)) → line_refusal limits R ≡ some e → Refuses spelled limits s e
      go (long h) d = record { reading = long (omega (arith, h, length-take n s)); reason = d }
      go (breaks h p b) d =
          subst (λ (w : List ℕ). Refuses spelled limits w e) (cut_all s n m h) (record { reading = breaks h p b; reason = d })
      go (spells h x f) d =
          subst (λ (w : List ℕ). Refuses spelled limits w e) (cut_all s n m h) (record { reading = spells h x f; reason = d })

-- ── Stores at the front ──

pub front-sets : (xs l : List ℕ) → length xs ≤ length l → sets l 0 xs ≡ front xs l
front-sets xs l h =
    let e : 0 + length xs ≡ length xs = omega arith in
    sets-eq xs l 0 (omega arith) ∙ ap (λ (k : ℕ). xs ++ drop k l) e

-- A list with xs in front of it has them there.
pub front-take : (xs l : List ℕ) (n : ℕ) → n ≡ length xs → take n (front xs l) ≡ xs
front-take xs l n e = take_at xs (drop (length xs) l) n (sym e)

pub front_length : (xs l : List ℕ) → length xs ≤ length l → length (front xs l) ≡ length l
front_length xs l h = length-append xs (drop (length xs) l) ∙ omega (arith, length-drop (length xs) l)
