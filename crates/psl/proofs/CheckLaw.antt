-- Laws of the PSL check: the counts of uses, which refusal decides, and what an accepted table is like.
use Rattle.trace.specs.declared.refusal.Refusal.TheVariants.{PslRoot, PslUse}
use mathlib.Core.Path.{◌≡◌, refl, sym, ap, ◌∙◌, subst}
use mathlib.Core.Bool.{Bool, true, false, not, ◌&&◌}
use mathlib.Core.Option.{Option, none, some}
use mathlib.Core.List.{List}
use Prim.Native.Nat.{ℕ, zero, suc, ◌+◌, ◌*◌, ◌-◌, ◌≤◌, ◌<◌}
use native.Mathlib.Omega.{arith}
use native.Mathlib.Numerals.{add-one}
use lib.Dec.{eqb}
use lib.ListN.{length, get_or, replicate, length-replicate, get_or-replicate}
use borrow.Author.Tests.{eq-eqb, ne_eqb, eqb-true, not-true}
use Rattle.trace.specs.declared.refusal.Refusal.{Refusal}
use Rattle.std.proofs.Common.{Result, Ok, Err, IfOk}
use Rattle.trace.specs.Refusal.{lowest}
use Rattle.table.specs.Answer.{checked}
use Rattle.table.specs.Node.{count, kind_at, left_at, right_at}
use Rattle.table.specs.Rules.{Use, unused, signal, operand, shape_of}
use Rattle.table.specs.Check.{length_fits, is_boolean, refusal_at, table_refusal}
use Rattle.table.specs.Inner.Place.{operand_or, bound, all_fit}
use Rattle.table.proofs.CheckLaw.{accepted, was_refused, unless-none, or-none, Fits, Fast, Sound, node_sound, sized, lowest-zero, lowest-next, lowest-some, none_below}
use Rattle.psl.specs.Check.{psl_rules, one, names, names_at, uses, use_refusal, root_refusal, tree_refusal, psl_refusal, total}
use Rattle.psl.specs.Inner.Counts.{Counted, CountRoom, Tallied}

pub named_in : (u : Use) (n i c : ℕ) → n < bound u i → i < c → operand_or u n 0 < c
named_in unused n i c h g = omega arith
named_in signal n i c h g = omega arith
named_in (operand b) n i c h g = omega arith

-- ── Counts ──

one-low : (b : Bool) → one b ≤ 1
one-low true = omega arith
one-low false = omega arith

pub names_same : (n : ℕ) → one (eqb n n) ≡ 1
names_same n = ap one (eq-eqb n n refl)

pub names_other : (n j : ℕ) → (n ≡ j → ⊥) → one (eqb n j) ≡ 0
names_other n j h = ap one (ne_eqb n j h)

names_once : (u : Use) (n j : ℕ) → names u n j ≤ 1
names_once unused n j = omega arith
names_once signal n j = omega arith
names_once (operand b) n j = one-low (eqb n j)

names-low : (t : List ℕ) (j i : ℕ) → names_at t j i ≤ 2
unfolding names_at
names-low t j i =
    let h = shape_of psl_rules (kind_at t i) in
    omega (arith, names_once h.0 (left_at t i) j, names_once h.1 (right_at t i) j)

uses-low : (t : List ℕ) (j i : ℕ) → total (names_at t j) i ≤ 2 * i
unfolding total
uses-low t j zero = omega arith
uses-low t j (suc i) = omega (arith, uses-low t j i, names-low t j i)

-- Cleared counts, before the first node.
pub untallied : (t : List ℕ) (n : ℕ) → length_fits psl_rules.most (length t) ≡ true → count t ≤ n → Tallied t 0 (replicate n 0)
unfolding total
untallied t n e h =
    record {
      right_length = e;
      passed = lowest-zero _;
      for_nodes = simp length-replicate h;
      counts = λ j g. get_or-replicate n j 0 0 (simp length-replicate at g);
    }

-- The answer for the first node that is refused is that of all nodes.
pub lowest_answer : (t : List ℕ) (i : ℕ) {a : Result (Unit {0}) Refusal} → i < count t → lowest (refusal_at psl_rules t) i ≡ none → (refusal_at psl_rules t i ≡ none → ⊥)
    → a ≡ checked (refusal_at psl_rules t i) → a ≡ checked (lowest (refusal_at psl_rules t) (count t))
lowest_answer t i {a} h e f d = go (refusal_at psl_rules t i) refl
  where
    go : (o : Option Refusal) → refusal_at psl_rules t i ≡ o → a ≡ checked (lowest (refusal_at psl_rules t) (count t))
    go none z = absurd (f z)
    go (some x) z = d ∙ ap checked (z ∙ sym (lowest-some (refusal_at psl_rules t) i (count t) x h e z))

-- Such an answer is no success.
pub refused_answer : (t : List ℕ) (i : ℕ) {a : Result (Unit {0}) Refusal} (P : Unit {0} → Type 0) → (refusal_at psl_rules t i ≡ none → ⊥) → a ≡ checked (refusal_at psl_rules t i) → IfOk a P
refused_answer t i {a} P f d = go (refusal_at psl_rules t i) refl
  where
    go : (o : Option Refusal) → refusal_at psl_rules t i ≡ o → IfOk a P
    go none z = absurd (f z)
    go (some x) z = subst (λ (b : Result (Unit {0}) Refusal). IfOk b P) (sym (d ∙ ap checked z)) tt

-- What the loop that counts knows at node i, c being the counts.
module _ {t : List ℕ} {i : ℕ} {c : List ℕ} (T : Tallied t i c) (h : i < count t) (fine : refusal_at psl_rules t i ≡ none) where
  sound : Sound psl_rules t i
  sound = node_sound psl_rules t i fine

  few : i < psl_rules.most
  few = omega (arith, (sized psl_rules t T.right_length).low)

  abbrev pub left : Use
  left = (shape_of psl_rules (kind_at t i)).0

  abbrev pub right : Use
  right = (shape_of psl_rules (kind_at t i)).1

  -- The count that a place adds to has room for two more.
  room : (u : Use) (n : ℕ) {b : Bool} → Fits psl_rules u n i b → let at = operand_or u n 0 in (at < length c) × (get_or c at 0 < 65534)
  room u n f =
      let at = operand_or u n 0 in
      let l : at < length c = omega (arith, T.for_nodes, named_in u n i (count t) f.low h) in
      (l, omega (arith, few, T.counts at l, uses-low t at i))

  pub left-room : CountRoom left (left_at t i) c
  left-room = let r = room left (left_at t i) sound.left in record { inside = r.0; room = omega (arith, r.1) }

  module _ (d : List ℕ) (L : Counted left (left_at t i) c d) where
    pub right_room : CountRoom right (right_at t i) d
    right_room =
        let at = operand_or right (right_at t i) 0 in
        let r = room right (right_at t i) sound.right in
        record { inside = omega (arith, r.0, L.same); room = omega (arith, r.1, L.more at r.0, names_once left (left_at t i) at) }

    pub tallied-next : (e : List ℕ) → Counted right (right_at t i) d e → Tallied t (i + 1) e
    unfolding total names_at
    tallied-next e R =
        record {
          right_length = T.right_length;
          passed = lowest-next (refusal_at psl_rules t) i T.passed fine;
          for_nodes = omega (arith, R.same, L.same, T.for_nodes);
          counts = λ j l.
              let m : j < length c = omega (arith, R.same, L.same, l) in
              rw (add-one i) (omega (arith, R.more j (omega (arith, m, L.same)), L.more j m, T.counts j m));
        }

-- The same of what the code read of the node: the uses u of its kind, and what its places hold.
module _ (t : List ℕ) (i : ℕ) (u : Use × Use) (l r : ℕ) (eu : u ≡ shape_of psl_rules (kind_at t i)) (el : l ≡ left_at t i) (er : r ≡ right_at t i) where
  module _ {c : List ℕ} (T : Tallied t i c) (h : i < count t) (fine : refusal_at psl_rules t i ≡ none) where
    pub left_asked : CountRoom u.0 l c
    left_asked = rw (eu, el) (left-room T h fine)

    module _ (d : List ℕ) (L : Counted u.0 l c d) where
      pub right_asked : CountRoom u.1 r d
      right_asked = rw (eu, er) (right_room T h fine d (rw (eu, el) at L))

      pub tallied_more : (x : List ℕ) → Counted u.1 r d x → Tallied t (i + 1) x
      tallied_more x R = tallied-next T h fine d (rw (eu, el) at L) x (rw (eu, er) at R)

  pub fast_by : {b : Bool} → b ≡ all_fit psl_rules u.0 l i (is_boolean psl_rules t l) && all_fit psl_rules u.1 r i (is_boolean psl_rules t r) → b ≡ Fast psl_rules t i
  fast_by {b} d = rw (eu, el, er) at d

-- ── The refusals after the nodes ──

-- The lowest node that is not an operand once decides.
pub uses-refused : (t : List ℕ) (j : ℕ) → j < count t - 1 → lowest (use_refusal t) j ≡ none → use_refusal t j ≡ some (PslUse j) → tree_refusal t ≡ some (PslUse j)
unfolding tree_refusal
uses-refused t j h e d = rw (lowest-some (use_refusal t) j (count t - 1) (PslUse j) h e d)

-- Node j by its count.
module _ {t c : List ℕ} (T : Tallied t (count t) c) (j : ℕ) (h : j < count t) where
  pub in_counts : j < length c
  in_counts = omega (arith, T.for_nodes)

  pub used_once : get_or c j 0 ≡ 1 → use_refusal t j ≡ none
  unfolding use_refusal
  used_once e = rw (eq-eqb (uses t j) 1 (sym (T.counts j in_counts) ∙ e))

  pub misused : (get_or c j 0 ≡ 1 → ⊥) → use_refusal t j ≡ some (PslUse j)
  unfolding use_refusal
  misused e = rw (ne_eqb (uses t j) 1 (λ d. e (T.counts j in_counts ∙ d)))

module _ (t : List ℕ) (once : lowest (use_refusal t) (count t - 1) ≡ none) where
  pub root-refused : is_boolean psl_rules t (count t - 1) ≡ true → tree_refusal t ≡ some (PslRoot (count t - 1))
  unfolding tree_refusal root_refusal
  root-refused b = rw (once, b)

  pub root_fine : is_boolean psl_rules t (count t - 1) ≡ false → tree_refusal t ≡ none
  unfolding tree_refusal root_refusal
  root_fine b = rw (once, b)

pub psl-first : (t : List ℕ) (x : Refusal) → table_refusal psl_rules t ≡ some x → psl_refusal t ≡ some x
unfolding psl_refusal
psl-first t x e = rw e

pub psl_then : (t : List ℕ) → table_refusal psl_rules t ≡ none → psl_refusal t ≡ tree_refusal t
unfolding psl_refusal
psl_then t e = rw e

-- What the answer for the nodes says of the whole table.
module _ (t : List ℕ) (e : length_fits psl_rules.most (length t) ≡ true) {a : Result (Unit {0}) Refusal} (d : a ≡ checked (lowest (refusal_at psl_rules t) (count t))) where
  by_nodes : table_refusal psl_rules t ≡ lowest (refusal_at psl_rules t) (count t)
  unfolding table_refusal
  by_nodes = rw e

  pub node_refused : {x : Refusal} → a ≡ Err x → Err x ≡ checked (psl_refusal t)
  node_refused {x} f = sym (ap checked (psl-first t x (by_nodes ∙ was_refused _ a x d f)))

  pub nodes_passed : {v : Unit {0}} → a ≡ Ok v → psl_refusal t ≡ tree_refusal t
  nodes_passed f = psl_then t (by_nodes ∙ accepted _ a d f)

-- ── What an accepted table is like, besides its nodes ──

module _ (t : List ℕ) (e : psl_refusal t ≡ none) where
  parts : (table_refusal psl_rules t ≡ none) × (lowest (use_refusal t) (count t - 1) ≡ none) × (root_refusal t ≡ none)
  unfolding psl_refusal tree_refusal
  parts =
      let a = or-none (table_refusal psl_rules t) _ e in
      let b = or-none (lowest (use_refusal t) (count t - 1)) (root_refusal t) a.1 in
      (a.0, b.0, b.1)

  pub psl-table : table_refusal psl_rules t ≡ none
  psl-table = parts.0

  pub psl_used : (j : ℕ) → j < count t - 1 → uses t j ≡ 1
  unfolding use_refusal
  psl_used j h = eqb-true (uses t j) 1 (unless-none (eqb (uses t j) 1) _ none (none_below (use_refusal t) (count t - 1) j h parts.1)).0

  pub psl-root : is_boolean psl_rules t (count t - 1) ≡ false
  unfolding root_refusal
  psl-root = not-true (is_boolean psl_rules t (count t - 1)) (unless-none (not (is_boolean psl_rules t (count t - 1))) _ none parts.2).0
