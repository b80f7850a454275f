-- Every node of an accepted table stands once in its formula: whatever is summed by kinds, over the formula or over the table's nodes, is the same.
-- By counting twice: the parts' sums, added up, are the kinds' and, for each node, its own as often as it is an operand: once, but for the last.
use Prim.Native.Nat.{ℕ, zero, suc, ◌+◌, ◌*◌, ◌-◌, ◌≤◌, ◌<◌}
use mathlib.Core.Path.{◌≡◌, refl, sym, ap, subst, ◌∙◌}
use mathlib.Core.Bool.{Bool, true}
use mathlib.Core.List.{List}
use mathlib.Core.Option.{none}
use native.Mathlib.Omega.{arith}
use native.Mathlib.Nat.{add-mul}
use lib.Dec.{eqb}
use Rattle.table.specs.Node.{node, count, kind_at, left_at, right_at}
use Rattle.table.specs.Rules.{Use, unused, signal, operand, is_operand, shape_of}
use Rattle.table.specs.Check.{table_refusal}
use Rattle.table.proofs.CheckLaw.{fit_below, kind_in, table-sized, table_sound}
use Rattle.table.proofs.KindLaw.{◌⨾◌, each}
use Rattle.psl.proofs.SumLaw.{total-same, total-add, total-zero, total-one, total_ones}
use Rattle.psl.specs.Size.{weigh_b, weigh, node_count}
use Rattle.psl.specs.Table.{Part, boolean, formula, as_boolean, as_formula, part_of, formula_of}
use Rattle.psl.specs.Check.{psl_rules, one, names, names_at, uses, psl_refusal, total}
use Rattle.psl.specs.Inner.Parts.{part_at, formula_at}
use Rattle.psl.proofs.CheckLaw.{names_same, names_other, psl-table, psl_used, psl-root}
use Rattle.psl.proofs.PartLaw.{Sorted, OfSort, part-root, part-node, part_sort, left-part, right_part}

zero_times : (a b : ℕ) → a ≡ 0 → a * b ≡ 0
zero_times a b e = rw e (omega arith)

one_times : (a b : ℕ) → a ≡ 1 → a * b ≡ b
one_times a b e = rw e (omega arith)

-- What an operand's place adds.
abbrev share : Use → ℕ → ℕ
share unused x = 0
share signal x = 0
share (operand b) x = x

-- ── A part by its operands ──

module _ (w : ℕ → ℕ) where
  abbrev weigh_p : Part → ℕ
  weigh_p (boolean b) = weigh_b w b
  weigh_p (formula f) = weigh w f

  of_boolean : (x : Part) → x ≡ boolean (as_boolean x) → weigh_p x ≡ weigh_b w (as_boolean x)
  of_boolean x e = ap weigh_p e

  of_formula : (x : Part) → x ≡ formula (as_formula x) → weigh_p x ≡ weigh w (as_formula x)
  of_formula x e = ap weigh_p e

  abbrev Weighed : (ℕ → Part) → ℕ → ℕ → ℕ → Type 0
  Weighed x l r k =
      OfSort (shape_of psl_rules k).0 (x l) → OfSort (shape_of psl_rules k).1 (x r)
      → weigh_p (part_of x (node k l r)) ≡ w k + share (shape_of psl_rules k).0 (weigh_p (x l)) + share (shape_of psl_rules k).1 (weigh_p (x r))

  weighed : (x : ℕ → Part) (l r k : ℕ) → k < 11 → Weighed x l r k
  unfolding part_of weigh_b weigh
  weighed x l r =
      each (Weighed x l r) 11
      ((λ p q. omega arith)
      ⨾ (λ p q. omega arith)
      ⨾ (λ p q. omega (arith, of_boolean (x l) p))
      ⨾ (λ p q. omega (arith, of_boolean (x l) p, of_boolean (x r) q))
      ⨾ (λ p q. omega (arith, of_boolean (x l) p))
      ⨾ (λ p q. omega (arith, of_boolean (x l) p))
      ⨾ (λ p q. omega (arith, of_formula (x l) p))
      ⨾ (λ p q. omega (arith, of_formula (x l) p, of_formula (x r) q))
      ⨾ (λ p q. omega (arith, of_formula (x l) p))
      ⨾ (λ p q. omega (arith, of_formula (x l) p, of_formula (x r) q))
      ⨾ (λ p q. omega (arith, of_formula (x l) p, of_boolean (x r) q))
      ⨾ tt)

-- ── Uses ──

-- A place, summed over all nodes that it may name.
names_sum : (u : Use) (f : ℕ → ℕ) (n m : ℕ) → (is_operand u ≡ true → n < m) → total (λ j. names u n j * f j) m ≡ share u (f n)
names_sum unused f n m h = total-zero (λ j. 0 * f j) m (λ j q. zero_times 0 (f j) refl)
names_sum signal f n m h = total-zero (λ j. 0 * f j) m (λ j q. zero_times 0 (f j) refl)
names_sum (operand b) f n m h =
    total-one (λ j. one (eqb n j) * f j) n m (h refl) (λ j q. zero_times (one (eqb n j)) (f j) (names_other n j (λ d. q (sym d))))
    ∙ one_times (one (eqb n n)) (f n) (names_same n)

module _ (t : List ℕ) (e : table_refusal psl_rules t ≡ none) where
  abbrev shares : (ℕ → ℕ) → ℕ → ℕ
  shares f i = share (shape_of psl_rules (kind_at t i)).0 (f (left_at t i)) + share (shape_of psl_rules (kind_at t i)).1 (f (right_at t i))

  uses_sum : (f : ℕ → ℕ) (i : ℕ) → i ≤ count t → total (λ j. total (names_at t j) i * f j) (count t) ≡ total (shares f) i
  unfolding total names_at
  uses_sum f zero h = total-zero (λ j. 0 * f j) (count t) (λ j q. zero_times 0 (f j) refl)
  uses_sum f (suc i) h =
      let n = count t in
      let p = (shape_of psl_rules (kind_at t i)).0 in
      let q = (shape_of psl_rules (kind_at t i)).1 in
      let s = table_sound psl_rules t e i (omega arith) in
      let below : (d : ℕ) → d < i → d < n = λ d l. omega arith in
      let u : ℕ → ℕ = λ j. total (names_at t j) i in
      let a : ℕ → ℕ = λ j. names p (left_at t i) j in
      let b : ℕ → ℕ = λ j. names q (right_at t i) j in
      omega (
        arith,
        total-same (λ j. (u j + (a j + b j)) * f j) (λ j. u j * f j + (a j * f j + b j * f j)) n
            (λ j l. add-mul (u j) (a j + b j) (f j) ∙ ap (λ (m : ℕ). u j * f j + m) (add-mul (a j) (b j) (f j))),
        total-add (λ j. u j * f j) (λ j. a j * f j + b j * f j) n,
        total-add (λ j. a j * f j) (λ j. b j * f j) n,
        uses_sum f i (omega arith),
        names_sum p f (left_at t i) n (λ o. below (left_at t i) (fit_below s.left o)),
        names_sum q f (right_at t i) n (λ o. below (right_at t i) (fit_below s.right o)),
      )

  -- No node names one that is not before it.
  names-none : (u : Use) (n j : ℕ) → (is_operand u ≡ true → n < j) → names u n j ≡ 0
  names-none unused n j h = refl
  names-none signal n j h = refl
  names-none (operand b) n j h = names_other n j (λ d. omega (arith, h refl))

  unused-last : (m : ℕ) → count t ≡ suc m → uses t m ≡ 0
  unfolding names_at
  unused-last m z =
      total-zero (names_at t m) (count t) (λ i h.
      let s = table_sound psl_rules t e i h in
      let p = (shape_of psl_rules (kind_at t i)).0 in
      let q = (shape_of psl_rules (kind_at t i)).1 in
      let above : (d : ℕ) → d < i → d < m = λ d l. omega arith in
      omega (
        arith,
        names-none p (left_at t i) m (λ o. above (left_at t i) (fit_below s.left o)),
        names-none q (right_at t i) m (λ o. above (right_at t i) (fit_below s.right o)),
      ))

-- ── The theorem ──

module _ (t : List ℕ) (e : psl_refusal t ≡ none) (w : ℕ → ℕ) where
  u : table_refusal psl_rules t ≡ none
  u = psl-table t e

  abbrev f : ℕ → ℕ
  f i = weigh_p w (part_at t i)

  at-node : (i : ℕ) → i < count t → f i ≡ w (kind_at t i) + shares t u f i
  at-node i h =
      ap (weigh_p w) (part-node t u i h)
      ∙ weighed w (part_at t) (left_at t i) (right_at t i) (kind_at t i) (kind_in psl_rules t u i h) (left-part t u i h (kind_at t i) refl) (right_part t u i h (kind_at t i) refl)
      ∙ omega arith

  at-root : (m : ℕ) → count t ≡ suc m → f m ≡ total (λ i. w (kind_at t i)) (count t)
  unfolding total
  at-root m z =
      let n = count t in
      let g : ℕ → ℕ = λ j. uses t j * f j in
      let a : total f n ≡ total (λ i. w (kind_at t i) + shares t u f i) n = total-same f _ n at-node in
      let b = total-add (λ i. w (kind_at t i)) (shares t u f) n in
      let c = uses_sum t u f n (omega arith) in
      let d : total g (suc m) ≡ total f m =
      omega (
        arith,
        total-same g f m (λ j l. one_times (uses t j) (f j) (psl_used t e j (omega arith))),
        zero_times (uses t m) (f m) (unused-last t u m z),
      ) in
      omega (arith, a, b, c, ap (total f) z, ap (total g) z, d)

  pub tree_weight : weigh w (formula_of t) ≡ total (λ i. w (kind_at t i)) (count t)
  tree_weight =
      let s = (table-sized psl_rules t u).some in
      let r : part_at t (count t - 1) ≡ formula (formula_at t (count t - 1)) =
      subst (λ (b : Bool). Sorted b (part_at t (count t - 1))) (psl-root t e) (part_sort t u (count t - 1) (omega arith)) in
      ap (weigh w) (part-root t) ∙ sym (of_formula w (part_at t (count t - 1)) r) ∙ at-root (count t - 1) (omega arith)

-- As many nodes as the table.
pub tree_nodes : (t : List ℕ) → psl_refusal t ≡ none → node_count (formula_of t) ≡ count t
tree_nodes t e = tree_weight t e (λ k. 1) ∙ total_ones (count t)
