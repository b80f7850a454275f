-- From the walk over the table to the translator's answer.
use mathlib.Core.Path.{◌≡◌, refl, sym, ap, subst, ◌∙◌}
use mathlib.Core.Bool.{Bool, true, false}
use mathlib.Core.Option.{Option, none, some}
use mathlib.Core.List.{List, [], ◌∷◌, ◌++◌}
use Prim.Native.Nat.{ℕ, suc, ◌+◌, ◌*◌, ◌≤◌, ◌<◌}
use native.Mathlib.Omega.{arith}
use lib.Dec.{leb}
use lib.ListN.{length, get_or, take, drop}
use lib.Seq.{sets-eq, take_at}
use borrow.Author.Tests.{le-leb, lt-leb, leb-true}
use Rattle.std.specs.Prelude.{Ok, Err, sum_by}
use Rattle.std.proofs.lemmas.List.Sums.{sum_by-cons}
use Rattle.trace.specs.declared.refusal.Refusal.{Refusal}
use Rattle.trace.specs.declared.refusal.Refusal.TheVariants.{TableRoom}
use Rattle.trace.specs.Refusal.{unless, or_else}
use Rattle.table.specs.Node.{Node, NodesOf, ◌▸◌, kind_at}
use Rattle.logic.specs.Formula.{Formula}
use Rattle.psl.specs.Size.{weigh}
use Rattle.psl.specs.Table.{formula_of}
use Rattle.psl.specs.Check.{psl_refusal, total}
use Rattle.psl.specs.Accepted.{PslTable}
use Rattle.psl.proofs.SumLaw.{total_front}
use Rattle.psl.proofs.TreeLaw.{tree_weight, tree_nodes}
use Rattle.psl.proofs.AcceptedLaw.{most-nodes}
use Rattle.ltl.specs.Table.{true_node, not_node}
use Rattle.translate.specs.Emitted.{added_by, walked, emitted, emitted_size, most_emitted}
use Rattle.translate.specs.Inner.Stored.{Room, Walks}
use Rattle.translate.specs.declared.writer.Writer.{Writer}
use Rattle.translate.specs.Answer.{translate_refusal, answer, Delivered, Delivers}
use Rattle.translate.proofs.WalkLaw.{length-emitted, size-bound}
use Rattle.translate.proofs.TranslatesLaw.{translates}
use Rattle.translate.proofs.EmittedLaw.{emitted-accepted}

-- ── The size, by the table's kinds ──

-- What a node adds, as the sum reads it.
abbrev pub added : List ℕ → ℕ
added x = added_by (get_or x 0 0)

-- A sum over a list, by its places.
sum_total : (f : List ℕ → ℕ) (g : ℕ → ℕ) (xs : List (List ℕ)) → ((i : ℕ) → i < length xs → f (get_or xs i []) ≡ g i) → sum_by f xs ≡ total g (length xs)
unfolding total
sum_total f g [] h = refl
sum_total f g (x ∷ xs) h =
    let e : f x ≡ g 0 = h 0 (omega arith) in
    omega (arith, sum_by-cons f x xs, sum_total f (λ i. g (suc i)) xs (λ i l. h (suc i) (omega arith)), total_front g (length xs))

-- Summed over the nodes it is the formula's (the tree theorem).
pub size_by : (table : PslTable) {xs : List (List ℕ)} → let t = table.numbers.now in NodesOf t xs → 2 + sum_by added xs ≡ emitted_size (formula_of t)
size_by table {xs} ns =
    let t = table.numbers.now in
    let g = λ (j : ℕ). added_by (kind_at t j) in
    omega (
      arith,
      sum_total added g xs (λ i h. ap added (ns.node_is i (omega (arith, ns.nodes)))),
      ap (total g) ns.nodes,
      tree_weight t table.accepted added_by,
    )

-- Its bound.
pub size-most : (t : List ℕ) → psl_refusal t ≡ none → emitted_size (formula_of t) ≤ most_emitted
size-most t e = size-bound (formula_of t) (omega (arith, tree_nodes t e, most-nodes t e))

-- ── What the walk leaves ──

-- Behind the first two nodes there is room for the walk of the root's formula.
pub asked_root : (table : PslTable) {l : List ℕ} {w₀ w₁ : Writer} {q : ℕ} {f : List Node → List Node} {g : Formula} → let t = table.numbers.now in
    3 * emitted_size (formula_of t) ≤ length l → w₀.out.now ≡ l → w₀.nodes ≡ 0 → Walks 2 f w₀ w₁ q → g ≡ formula_of t → Room (weigh added_by g) w₁
asked_root table {l} {w₀} {w₁} room a b c z =
    rw z record { space = omega (arith, room, ap length a, c.more, c.sized); fits = omega (arith, size-most table.numbers.now table.accepted, c.more) }

-- Node 0 is true, the next one not 0, the rest the walk's.
pub emits : {f g : Formula} (l : List ℕ) {w₀ w₁ w₂ w₃ : Writer} {p q r : ℕ} → g ≡ f
    → 3 * emitted_size f ≤ length l → w₀.out.now ≡ l → w₀.nodes ≡ 0 → Walks 1 (λ ns. ns ▸ true_node) w₀ w₁ p → Walks 1 (λ ns. ns ▸ not_node p) w₁ w₂ q
    → Walks (weigh added_by g) (walked g q q) w₂ w₃ r → w₃.out.now ≡ emitted f ++ drop (length (emitted f)) l
unfolding emitted
emits {f} l {p = p} {q = q} x room y z a b c =
    let zero : p ≡ 0 = omega (arith, a.last, a.more) in
    let one : q ≡ 1 = omega (arith, a.more, b.last, b.more) in
    let d = rw zero at b in
    let v = rw (x, one) at c in
    let s = v.stores l _ (d.stores l _ (a.stores l [] (record { count = z; is = y }))) in
    let k : 0 + length (emitted f) ≡ length (emitted f) = omega arith in
    s.is ∙ sets-eq (emitted f) l 0 (omega (arith, length-emitted f)) ∙ ap (λ (k : ℕ). emitted f ++ drop k l) k

-- ── The answer ──

module _ (t l : List ℕ) where
  refuses : {x : Refusal} → translate_refusal t (length l) ≡ some x → Delivers t l (Err x) l
  refuses e = record { answers = rw e; leaves = rw e; succeeds = λ s z. absurd (cc) }

  pub refused_check : {x : Refusal} → psl_refusal t ≡ some x → Delivers t l (Err x) l
  unfolding translate_refusal
  refused_check e = refuses (rw e)

  pub refused-room : {s : ℕ} → psl_refusal t ≡ none → s ≡ emitted_size (formula_of t) → length l < 3 * s → Delivers t l (Err TableRoom) l
  unfolding translate_refusal
  refused-room e z h = refuses (rw (e, lt-leb (3 * emitted_size (formula_of t)) (length l) (omega arith)))

  emitted-delivered : {s : ℕ} → psl_refusal t ≡ none → s ≡ emitted_size (formula_of t) → Delivered (formula_of t) s (emitted (formula_of t))
  emitted-delivered e z =
      let f = formula_of t in
      let most = size-most t e in
      record { is = refl; sized = omega (arith, length-emitted f); bounded = omega arith; passes = emitted-accepted t e (omega arith); keeps = translates f }

  pub delivered : {s : ℕ} {m : List ℕ} → psl_refusal t ≡ none → s ≡ emitted_size (formula_of t) → 3 * s ≤ length l
      → m ≡ emitted (formula_of t) ++ drop (length (emitted (formula_of t))) l → Delivers t l (Ok s) m
  unfolding translate_refusal
  delivered {s} {m} e z h c =
      let f = formula_of t in
      let n : translate_refusal t (length l) ≡ none = rw (e, le-leb (3 * emitted_size f) (length l) (omega arith)) in
      record {
        answers = rw n (ap Ok z);
        leaves = rw n c;
        succeeds = λ k d.
            let i : k ≡ s = cc in
            let y : take (3 * k) m ≡ emitted f = ap (take (3 * k)) c ∙ take_at (emitted f) (drop (length (emitted f)) l) (3 * k) (omega (arith, length-emitted f)) in
            subst (Delivered f k) (sym y) (emitted-delivered e (i ∙ z));
      }

-- An answer that is a size: nothing is refused.
told_size : (o : Option Refusal) (b : Bool) (x : Refusal) (n s : ℕ) → Ok s ≡ answer (or_else o (unless b x none)) n → (o ≡ none) × (b ≡ true) × (s ≡ n)
told_size (some y) b x n s e = absurd (cc)
told_size none true x n s e = (refl, refl, cc)
told_size none false x n s e = absurd (cc)

pub was_accepted : (t l : List ℕ) (s : ℕ) (m : List ℕ) → Delivers t l (Ok s) m → (psl_refusal t ≡ none) × (s ≡ emitted_size (formula_of t)) × (3 * s ≤ length l)
unfolding translate_refusal
was_accepted t l s m d =
    let size = emitted_size (formula_of t) in
    let (e, b, z) = told_size (psl_refusal t) (leb (3 * size) (length l)) TableRoom size s d.answers in
    (e, z, omega (arith, leb-true (3 * size) (length l) b))
