-- Laws of the check that both tables share: when a node is refused, which refusal decides, and what a table that is not refused is like.
use mathlib.Core.Path.{◌≡◌, refl, sym, ap, ◌∙◌, subst}
use mathlib.Core.Bool.{Bool, true, false, ◌&&◌, beq}
use mathlib.Core.Option.{Option, none, some, some-ne-none}
use mathlib.Core.List.{List}
use Prim.Native.Nat.{ℕ, zero, suc, ◌+◌, ◌/◌, ◌%◌, ◌≤◌, ◌<◌}
use native.Mathlib.Omega.{arith}
use native.Mathlib.Numerals.{add-one}
use native.Mathlib.Decide.{dec_lt}
use lib.Dec.{eqb, ltb, leb}
use lib.ListN.{length}
use borrow.Author.Tests.{lt-ltb, le-ltb, eq-eqb, eqb-true, ltb-true, leb-true}
use Rattle.std.proofs.lemmas.Bool.{false≢true, both_ways, and_parts}
use Rattle.logic.specs.Letter.{signals}
use Rattle.trace.specs.declared.refusal.Refusal.{Refusal}
use Rattle.std.specs.Prelude.{Result, Ok, Err}
use Rattle.trace.specs.Refusal.{unless, or_else, lowest}
use Rattle.table.specs.Answer.{checked}
use Rattle.table.specs.Node.{node, count, kind_at, left_at, right_at}
use Rattle.table.specs.Rules.{Use, unused, signal, operand, Sorts, Rules, is_operand, known, shape_of}
use Rattle.table.specs.Check.{unused_fits, signal_fits, operand_fits, sort_fits, length_fits, sort_refusal, places_refusal, node_refusal, is_boolean, refusal_at, table_refusal}
use Rattle.table.specs.Inner.Place.{bound, low_fits, sorts_fit, all_fit}

-- ── Tests and answers ──

pub unless-none : (b : Bool) (x : Refusal) (o : Option Refusal) → unless b x o ≡ none → (b ≡ true) × (o ≡ none)
unless-none true x o e = (refl, e)
unless-none false x o e = absurd (some-ne-none x e)

pub or-none : (o p : Option Refusal) → or_else o p ≡ none → (o ≡ none) × (p ≡ none)
or-none none p e = (refl, e)
or-none (some x) p e = absurd (some-ne-none x e)

-- The answer tells the refusal.
pub accepted : (o : Option Refusal) (a : Result (Unit {0}) Refusal) → a ≡ checked o → a ≡ Ok tt → o ≡ none
accepted none a e d = refl
accepted (some x) a e d = cc

pub was_refused : (o : Option Refusal) (a : Result (Unit {0}) Refusal) (x : Refusal) → a ≡ checked o → a ≡ Err x → o ≡ some x
was_refused none a x e d = cc
was_refused (some y) a x e d = cc

-- ── A place ──

-- A place of node i that holds n passes all tests; b tells whether what it names is a Boolean.
pub record Fits (R : Rules) (u : Use) (n i : ℕ) (b : Bool) : Type 0 where
  pub low : n < bound u i
  pub sort : sorts_fit R.sorts u b ≡ true

unused-fits : (u : Use) (n i : ℕ) → n < bound u i → unused_fits u n ≡ true
unused-fits unused n i h = eq-eqb n 0 (omega arith)
unused-fits signal n i h = refl
unused-fits (operand b) n i h = refl

signal-fits : (u : Use) (n i : ℕ) → n < bound u i → signal_fits u n ≡ true
signal-fits unused n i h = refl
signal-fits signal n i h = lt-ltb n signals h
signal-fits (operand b) n i h = refl

operand-fits : (u : Use) (n i : ℕ) → n < bound u i → operand_fits u n i ≡ true
operand-fits unused n i h = refl
operand-fits signal n i h = refl
operand-fits (operand b) n i h = lt-ltb n i h

low_fits_lem : (u : Use) (n i : ℕ) → unused_fits u n ≡ true → signal_fits u n ≡ true → operand_fits u n i ≡ true → n < bound u i
low_fits_lem unused n i e d c = omega (arith, eqb-true n 0 e)
low_fits_lem signal n i e d c = ltb-true n signals d
low_fits_lem (operand b) n i e d c = ltb-true n i c

all_fits : (R : Rules) (u : Use) (n i : ℕ) (b : Bool) → all_fit R u n i b ≡ true → Fits R u n i b
all_fits R u n i b e =
    let c = and_parts (sorts_fit R.sorts u b) (low_fits u n i) e in
    record { low = ltb-true n (bound u i) c.1; sort = c.0 }

fits_all : (R : Rules) (u : Use) (n i : ℕ) (b : Bool) → Fits R u n i b → all_fit R u n i b ≡ true
fits_all R u n i b f = rw f.sort (lt-ltb n (bound u i) f.low)

-- The sort of an operand, where there are sorts.
pub sort_is : (b s : Bool) → beq s b ≡ true → s ≡ b
sort_is true true e = refl
sort_is true false e = e
sort_is false true e = sym e
sort_is false false e = refl

pub fit_below : {R : Rules} {u : Use} {n i : ℕ} {b : Bool} → Fits R u n i b → is_operand u ≡ true → n < i
fit_below {R} {u} {n} {i} {b} f = go u f.low
  where
    go : (u : Use) → n < bound u i → is_operand u ≡ true → n < i
    go unused h e = absurd (false≢true e)
    go signal h e = absurd (false≢true e)
    go (operand c) h e = h

pub fit_unused : {R : Rules} {u : Use} {n i : ℕ} {b : Bool} → Fits R u n i b → u ≡ unused → n ≡ 0
fit_unused {R} {u} {n} {i} f e = let h : n < 1 = subst (λ (v : Use). n < bound v i) e f.low in omega arith

-- The sort matters of an operand alone.
pub fits-same : {R : Rules} {u : Use} {n i : ℕ} {b c : Bool} → Fits R u n i b → (is_operand u ≡ true → c ≡ b) → Fits R u n i c
fits-same {R} {u} {n} {i} {b} {c} f e = record { low = f.low; sort = go R.sorts u f.sort e }
  where
    go : (S : Option Sorts) (u : Use) → sorts_fit S u b ≡ true → (is_operand u ≡ true → c ≡ b) → sorts_fit S u c ≡ true
    go none u d e = refl
    go (some s) unused d e = refl
    go (some s) signal d e = refl
    go (some s) (operand o) d e = subst (λ (x : Bool). beq x o ≡ true) (sym (e refl)) d

-- ── A node ──

sorts-none : (S : Option Sorts) (h : Use × Use) (i : ℕ) (lb rb : Bool) → sorts_fit S h.0 lb ≡ true → sorts_fit S h.1 rb ≡ true → sort_refusal S h i lb rb ≡ none
sorts-none none h i lb rb e d = refl
sorts-none (some s) h i lb rb e d = rw (e, d)

sorts_fit_lem : (S : Option Sorts) (h : Use × Use) (i : ℕ) (lb rb : Bool) → sort_refusal S h i lb rb ≡ none → (sorts_fit S h.0 lb ≡ true) × (sorts_fit S h.1 rb ≡ true)
sorts_fit_lem none h i lb rb e = (refl, refl)
sorts_fit_lem (some s) h i lb rb e =
    and_parts (sort_fits h.0 lb) (sort_fits h.1 rb) (unless-none (sort_fits h.0 lb && sort_fits h.1 rb) _ none e).0

module _ (R : Rules) (h : Use × Use) (i l r : ℕ) (lb rb : Bool) where
  places-none : Fits R h.0 l i lb → Fits R h.1 r i rb → places_refusal R h i l r lb rb ≡ none
  unfolding places_refusal
  places-none f g =
      rw (
        unused-fits h.0 l i f.low,
        unused-fits h.1 r i g.low,
        signal-fits h.0 l i f.low,
        signal-fits h.1 r i g.low,
        operand-fits h.0 l i f.low,
        operand-fits h.1 r i g.low,
      ) (sorts-none R.sorts h i lb rb f.sort g.sort)

  pub places_fit : places_refusal R h i l r lb rb ≡ none → Fits R h.0 l i lb × Fits R h.1 r i rb
  unfolding places_refusal
  places_fit e =
      let p = h.0 in
      let q = h.1 in
      let a = unless-none (unused_fits p l && unused_fits q r) _ _ e in
      let b = unless-none (signal_fits p l && signal_fits q r) _ _ a.1 in
      let c = unless-none (operand_fits p l i && operand_fits q r i) _ _ b.1 in
      let u = and_parts (unused_fits p l) (unused_fits q r) a.0 in
      let s = and_parts (signal_fits p l) (signal_fits q r) b.0 in
      let o = and_parts (operand_fits p l i) (operand_fits q r i) c.0 in
      let t = sorts_fit_lem R.sorts h i lb rb c.1 in (
        record { low = low_fits_lem p l i u.0 s.0 o.0; sort = t.0 },
        record { low = low_fits_lem q r i u.1 s.1 o.1; sort = t.1 },
      )

-- What a node that is not refused is like.
pub record Sound (R : Rules) (t : List ℕ) (i : ℕ) : Type 0 where
  pub kind : known R (kind_at t i) ≡ true
  pub left : Fits R (shape_of R (kind_at t i)).0 (left_at t i) i (is_boolean R t (left_at t i))
  pub right : Fits R (shape_of R (kind_at t i)).1 (right_at t i) i (is_boolean R t (right_at t i))

module _ (R : Rules) (t : List ℕ) (i : ℕ) where
  pub node-none : Sound R t i → refusal_at R t i ≡ none
  unfolding refusal_at node_refusal
  node-none s = rw s.kind (places-none R (shape_of R (kind_at t i)) i (left_at t i) (right_at t i) _ _ s.left s.right)

  pub node_sound : refusal_at R t i ≡ none → Sound R t i
  unfolding refusal_at node_refusal
  node_sound e =
      let a = unless-none (known R (kind_at t i)) _ _ e in
      let f = places_fit R (shape_of R (kind_at t i)) i (left_at t i) (right_at t i) _ _ a.1 in
      record { kind = a.0; left = f.0; right = f.1 }

-- Node i as the code reads it: a and b tell the kinds of what its places name.
pub read-node : (R : Rules) (t : List ℕ) (i : ℕ) {k l r : ℕ} {a b : Bool} → k ≡ kind_at t i → l ≡ left_at t i → r ≡ right_at t i → a ≡ is_boolean R t l → b ≡ is_boolean R t r
    → node_refusal R i (node k l r) a b ≡ refusal_at R t i
unfolding refusal_at
read-node R t i ek el er ea eb = rw (ea, eb, ek, el, er)

-- All tests of both places at once, as the loop makes them.
module _ (R : Rules) (t : List ℕ) (i : ℕ) where
  abbrev pub Fast : Bool
  Fast =
      let h = shape_of R (kind_at t i) in
      all_fit R h.0 (left_at t i) i (is_boolean R t (left_at t i)) && all_fit R h.1 (right_at t i) i (is_boolean R t (right_at t i))

  pub fast_none : kind_at t i < length R.kinds → Fast ≡ true → refusal_at R t i ≡ none
  fast_none k f =
      let h = shape_of R (kind_at t i) in
      let c = and_parts (all_fit R h.0 (left_at t i) i (is_boolean R t (left_at t i))) _ f in
      node-none R t i record { kind = lt-ltb _ _ k; left = all_fits _ _ _ _ _ c.0; right = all_fits _ _ _ _ _ c.1 }

  pub fast_some : Fast ≡ false → refusal_at R t i ≡ none → ⊥
  fast_some f e =
      let s = node_sound R t i e in
      let g : Fast ≡ true = rw (fits_all _ _ _ _ _ s.left, fits_all _ _ _ _ _ s.right) in
      both_ways Fast f g

  pub unknown_some : length R.kinds ≤ kind_at t i → refusal_at R t i ≡ none → ⊥
  unknown_some k e = both_ways (known R (kind_at t i)) (le-ltb _ _ k) (node_sound R t i e).kind

-- ── The lowest refusal ──

module _ (f : ℕ → Option Refusal) where
  pub lowest-zero : lowest f 0 ≡ none
  unfolding lowest
  lowest-zero = refl

  pub lowest-next : (i : ℕ) → lowest f i ≡ none → f i ≡ none → lowest f (i + 1) ≡ none
  unfolding lowest
  lowest-next i e d = rw (add-one i, e, d)

  -- The first that is refused decides.
  pub lowest-some : (i n : ℕ) (x : Refusal) → i < n → lowest f i ≡ none → f i ≡ some x → lowest f n ≡ some x
  unfolding lowest
  lowest-some i zero x h e d = absurd (omega arith)
  lowest-some i (suc n) x h e d = go (dec_lt i n) (lowest-some i n x)
    where
      go : Dec (i < n) → (i < n → lowest f i ≡ none → f i ≡ some x → lowest f n ≡ some x) → lowest f (suc n) ≡ some x
      go (yes l) rec = rw (rec l e d)
      go (no l) rec = let z : i ≡ n = omega arith in rw (subst (λ (m : ℕ). lowest f m ≡ none) z e, subst (λ (m : ℕ). f m ≡ some x) z d)

  pub none_below : (n i : ℕ) → i < n → lowest f n ≡ none → f i ≡ none
  unfolding lowest
  none_below zero i h e = absurd (omega arith)
  none_below (suc n) i h e =
      let d = or-none (lowest f n) (f n) e in
      elim (dec_lt i n) [
        | yes l ↦ none_below n i l d.0
        | no l ↦ let z : n ≡ i = omega arith in subst (λ (m : ℕ). f m ≡ none) z d.1
      ]

  pub none-refused : (n : ℕ) → ((i : ℕ) → i < n → f i ≡ none) → lowest f n ≡ none
  none-refused zero h = lowest-zero
  none-refused (suc n) h = rw (sym (add-one n)) (lowest-next n (none-refused n (λ i l. h i (omega arith))) (h n (omega arith)))

-- ── The whole table ──

-- What the length of a table that is not refused is like.
pub record Sized (R : Rules) (t : List ℕ) : Type 0 where
  pub threes : length t % 3 ≡ 0
  pub some : 0 < count t
  pub low : count t ≤ R.most

module _ (R : Rules) (t : List ℕ) where
  pub sized : length_fits R.most (length t) ≡ true → Sized R t
  sized e =
      let n = length t in
      let a = and_parts (eqb (n % 3) 0 && ltb 0 (n / 3)) (leb (n / 3) R.most) e in
      let b = and_parts (eqb (n % 3) 0) (ltb 0 (n / 3)) a.0 in
      record { threes = eqb-true (n % 3) 0 b.0; some = ltb-true 0 (n / 3) b.1; low = leb-true (n / 3) R.most a.1 }

  pub refused-length : length_fits R.most (length t) ≡ false → table_refusal R t ≡ some R.refusals.length
  unfolding table_refusal
  refused-length e = rw e

  module _ (e : length_fits R.most (length t) ≡ true) where
    -- The answer for the first node that is refused is the table's.
    pub refused-node : (i : ℕ) (a : Result (Unit {0}) Refusal) → i < count t → lowest (refusal_at R t) i ≡ none → (refusal_at R t i ≡ none → ⊥)
        → a ≡ checked (refusal_at R t i) → a ≡ checked (table_refusal R t)
    unfolding table_refusal
    refused-node i a h d f g = go (refusal_at R t i) refl
      where
        go : (o : Option Refusal) → refusal_at R t i ≡ o → a ≡ checked (unless (length_fits R.most (length t)) R.refusals.length (lowest (refusal_at R t) (count t)))
        go none z = absurd (f z)
        go (some x) z = rw (e, lowest-some (refusal_at R t) i (count t) x h d z) (g ∙ ap checked z)

    pub refused_none : (i : ℕ) → i ≡ count t → lowest (refusal_at R t) i ≡ none → table_refusal R t ≡ none
    unfolding table_refusal
    refused_none i z d = rw (e) (subst (λ (m : ℕ). lowest (refusal_at R t) m ≡ none) z d)

  module _ (e : table_refusal R t ≡ none) where
    parts : (length_fits R.most (length t) ≡ true) × (lowest (refusal_at R t) (count t) ≡ none)
    unfolding table_refusal
    parts = unless-none (length_fits R.most (length t)) _ _ e

    pub table-sized : Sized R t
    table-sized = sized parts.0

    pub table_sound : (i : ℕ) → i < count t → Sound R t i
    table_sound i h = node_sound R t i (none_below (refusal_at R t) (count t) i h parts.1)

    -- For callers: node i of a table that is not refused. At a kind's own number the places compute: with q : kind_at t i ≡ 3,
    -- `(right_fits psl_rules t e i h 3 q).low` says that the right operand is below i, and `sort_is` of its `.sort` that it is a Boolean.
    module _ (i : ℕ) (h : i < count t) where
      pub kind_in : kind_at t i < length R.kinds
      kind_in = ltb-true (kind_at t i) (length R.kinds) (table_sound i h).kind

      pub left-fits : (k : ℕ) → kind_at t i ≡ k → Fits R (shape_of R k).0 (left_at t i) i (is_boolean R t (left_at t i))
      left-fits k q = subst (λ (m : ℕ). Fits R (shape_of R m).0 (left_at t i) i (is_boolean R t (left_at t i))) q (table_sound i h).left

      pub right_fits : (k : ℕ) → kind_at t i ≡ k → Fits R (shape_of R k).1 (right_at t i) i (is_boolean R t (right_at t i))
      right_fits k q = subst (λ (m : ℕ). Fits R (shape_of R m).1 (right_at t i) i (is_boolean R t (right_at t i))) q (table_sound i h).right
