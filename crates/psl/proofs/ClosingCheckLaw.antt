-- A closing table passes the PSL check: each node is named once, by the node that closes next around it.
-- last.
use mathlib.Core.Path.{◌≡◌, refl, ap, sym, subst, ◌∙◌}
use mathlib.Core.Bool.{Bool, true, false, beq}
use mathlib.Core.List.{List, []}
use mathlib.Core.Option.{none}
use Prim.Native.Nat.{ℕ, ◌+◌, ◌-◌, ◌<◌, ◌≤◌}
use native.Mathlib.Omega.{arith}
use native.Mathlib.Numerals.{add-one}
use native.Mathlib.Decide.{dec_lt, ℕ_discrete}
use borrow.Author.Tests.{eq-eqb, ne_eqb, lt-ltb, le-ltb, leb-false}
use lib.ListN.{length}
use lib.Dec.{eqb, ltb}
use Rattle.logic.specs.Letter.{signals}
use Rattle.table.specs.Node.{Node, node, numbers_of, count, ◌▸◌, last}
use Rattle.table.specs.Rules.{Use, operand, unused, shape_of}
use Rattle.table.specs.Check.{is_boolean, table_refusal}
use Rattle.std.proofs.SliceLists.{length_more}
use Rattle.std.proofs.lemmas.Bool.{or_parts}
use Rattle.table.proofs.CheckLaw.{Fits, none-refused}
use Rattle.table.proofs.PassesLaw.{node_of, node_old, node_new, is_bool, Passes, PassFrom, pass_join, pass_more, count-numbers, node-numbers, sort_numbers, nodes_pass}
use Rattle.logic.specs.Formula.{BoolExpr, btrue, var, bnot, band, Formula, weak, strong, fnot, fand, next, until, abort}
use Rattle.psl.specs.Closing.{nodes_b, nodes, closing_nodes, large_signal_b, large_signal}
use Rattle.psl.specs.Check.{boolean_kinds, psl_rules, one as oneIf, names, names_at, uses, use_refusal, psl_refusal, total}
use Rattle.psl.proofs.SumLaw.{total-same}
use Rattle.psl.proofs.CheckLaw.{root_fine, psl_then}

-- ── Uses ──

-- How often a node names node j, and how often all nodes do.
abbrev naming : Node → ℕ → ℕ
naming (node k l r) j = names (shape_of psl_rules k).0 l j + names (shape_of psl_rules k).1 r j

abbrev used : List Node → ℕ → ℕ
used ns j = total (λ i. naming (node_of ns i) j) (length ns)

used_more : (ns : List Node) (x : Node) (j : ℕ) → used (ns ▸ x) j ≡ used ns j + naming x j
unfolding total
used_more ns x j =
    ap (total (λ i. naming (node_of (ns ▸ x) i) j)) (length_more ns x ∙ add-one (length ns))
    ∙ ap (λ (n : ℕ). n + naming (node_of (ns ▸ x) (length ns)) j)
    (total-same (λ i. naming (node_of (ns ▸ x) i) j) (λ i. naming (node_of ns i) j) (length ns) (λ i h. ap (λ (y : Node). naming y j) (node_old ns x i h)))
    ∙ ap (λ (y : Node). used ns j + naming y j) (node_new ns x)

-- ── Tables that grow ──

-- 1 for the numbers below n.
abbrev under : ℕ → ℕ → ℕ
under n j = oneIf (ltb j n)

under_more : (n j : ℕ) → under (n + 1) j ≡ under n j + oneIf (eqb n j)
under_more n j =
    elim (dec_lt j n) [
      | yes h ↦ rw (lt-ltb j n h, lt-ltb j (n + 1) (omega arith), ne_eqb n j (λ e. omega arith)) refl
      | no h ↦
          elim (ℕ_discrete n j) [
            | yes e ↦ rw (le-ltb j n (omega arith), lt-ltb j (n + 1) (omega arith), eq-eqb n j e) refl
            | no e ↦ rw (le-ltb j n (omega arith), le-ltb j (n + 1) (omega arith), ne_eqb n j e) refl
          ]
    ]

-- From ns to ms nodes were added, and each new node is named once, by a new node or left to be named by a later one.
record Grown (ns ms : List Node) (left : ℕ → ℕ) : Type 0 where
  longer : length ns ≤ length ms
  kept : (i : ℕ) → i < length ns → node_of ms i ≡ node_of ns i
  passes : PassFrom psl_rules (length ns) ms
  named : (j : ℕ) → used ms j + left j + under (length ns) j ≡ used ns j + under (length ms) j

grown_none : (ns : List Node) → Grown ns ns (λ j. 0)
grown_none ns =
    record { longer = omega arith; kept = λ i h. refl; passes = record { at = λ i h l. absurd (omega arith) }; named = λ j. omega arith }

grown_both : {ns ms ps : List Node} {o p : ℕ → ℕ} → Grown ns ms o → Grown ms ps p → Grown ns ps (λ j. o j + p j)
grown_both {ns} {ms} {ps} g h =
    record {
      longer = omega (arith, g.longer, h.longer);
      kept = λ i l. h.kept i (omega (arith, g.longer)) ∙ g.kept i l;
      passes = pass_join psl_rules h.kept g.passes h.passes;
      named = λ j. omega (arith, g.named j, h.named j);
    }

-- A node that names all that was left.
grown_more : {ns ms : List Node} {o : ℕ → ℕ} (x : Node) → Grown ns ms o → ((j : ℕ) → naming x j ≡ o j) → Passes psl_rules ms (length ms) x
    → Grown ns (ms ▸ x) (λ j. oneIf (eqb (length ms) j))
grown_more {ns} {ms} x g e a = record { longer = omega (arith, g.longer, length_more ms x); kept = kept; passes = pass_more psl_rules x g.passes a; named = named }
  where
    kept : (i : ℕ) → i < length ns → node_of (ms ▸ x) i ≡ node_of ns i
    kept i h = node_old ms x i (omega (arith, g.longer)) ∙ g.kept i h

    named : (j : ℕ) → used (ms ▸ x) j + oneIf (eqb (length ms) j) + under (length ns) j ≡ used ns j + under (length (ms ▸ x)) j
    named j =
        omega (
          arith,
          used_more ms x j,
          e j,
          g.named j,
          under_more (length ms) j,
          ap (λ (n : ℕ). under n j) (length_more ms x),
        )

-- ── The nodes of a formula ──

-- A place for an operand of a sort, and one that is unused.
module _ {u : Use} {b : Bool} (e : u ≡ operand b) where
  named_once : (n j : ℕ) → names u n j ≡ oneIf (eqb n j)
  named_once n j = rw e refl

  fits-operand : {c : Bool} → c ≡ b → {n i : ℕ} → n < i → Fits psl_rules u n i c
  fits-operand {c} d {n} {i} h = rw (e, d) record { low = h; sort = same b }
    where
      same : (b : Bool) → beq b b ≡ true
      same true = refl
      same false = refl

module _ {u : Use} (e : u ≡ unused) where
  named_never : (n j : ℕ) → names u n j ≡ 0
  named_never n j = rw e refl

  fits-unused : {i : ℕ} {c : Bool} → Fits psl_rules u 0 i c
  fits-unused = rw e record { low = omega arith; sort = refl }

-- The nodes of a part were added; its own is the last, and a Boolean or not.
record Built (ns ms : List Node) (c : Bool) : Type 0 where
  more : length ns < length ms
  grown : Grown ns ms (λ j. oneIf (eqb (last ms) j))
  sort : is_bool psl_rules (node_of ms (last ms)) ≡ c

-- A node that names the roots of its operands.
build : {ns ms : List Node} {o : ℕ → ℕ} (k l r : ℕ) → Grown ns ms o → ((j : ℕ) → naming (node k l r) j ≡ o j) → Passes psl_rules ms (length ms) (node k l r)
    → {c : Bool} → ltb k boolean_kinds ≡ c → Built ns (ms ▸ node k l r) c
build {ns} {ms} k l r g e a s =
    let x = node k l r in
    let z : length ms ≡ last (ms ▸ x) = omega (arith, length_more ms x) in
    record {
      more = omega (arith, g.longer, length_more ms x);
      grown = subst (λ (n : ℕ). Grown ns (ms ▸ x) (λ j. oneIf (eqb n j))) z (grown_more x g e a);
      sort = ap (λ (n : ℕ). is_bool psl_rules (node_of (ms ▸ x) n)) (sym z) ∙ ap (is_bool psl_rules) (node_new ms x) ∙ s;
    }

-- A kind of one operand, and one of two.
module _ (k : ℕ) (low : k < length psl_rules.kinds) {b : Bool} (left : (shape_of psl_rules k).0 ≡ operand b) {c : Bool} (sort : ltb k boolean_kinds ≡ c) where
  one_built : (shape_of psl_rules k).1 ≡ unused → {ns ms : List Node} → Built ns ms b → Built ns (ms ▸ node k (last ms) 0) c
  one_built right {ns} {ms} x =
      build k (last ms) 0 x.grown
      (λ j. omega (arith, named_once left (last ms) j, named_never right 0 j))
      (low, fits-operand left x.sort (omega (arith, x.more)), fits-unused right)
      sort

  two_built : {d : Bool} → (shape_of psl_rules k).1 ≡ operand d → {ns ms ps : List Node} → Built ns ms b → Built ms ps d
      → Built ns (ps ▸ node k (last ms) (last ps)) c
  two_built right {ns} {ms} {ps} x y =
      let left-sort = ap (is_bool psl_rules) (y.grown.kept (last ms) (omega (arith, x.more))) ∙ x.sort in
      build k (last ms) (last ps) (grown_both x.grown y.grown)
      (λ j. omega (arith, named_once left (last ms) j, named_once right (last ps) j))
      (low, fits-operand left left-sort (omega (arith, x.more, y.more)), fits-operand right y.sort (omega (arith, y.more)))
      sort

built_b : (b : BoolExpr) → large_signal_b b ≡ false → (ns : List Node) → Built ns (nodes_b b ns) true
unfolding nodes_b large_signal_b
built_b btrue w ns = build 0 0 0 (grown_none ns) (λ j. refl) (omega arith, fits-unused refl, fits-unused refl) refl
built_b (var n) w ns =
    let l : n < signals = leb-false signals n w in
    build 1 n 0 (grown_none ns) (λ j. refl) (omega arith, record { low = l; sort = refl }, fits-unused refl) refl
built_b (bnot b) w ns = one_built 2 (omega arith) refl refl refl (built_b b w ns)
built_b (band b c) w ns =
    let (p, q) = or_parts (large_signal_b b) (large_signal_b c) w in
    two_built 3 (omega arith) refl refl refl (built_b b p ns) (built_b c q (nodes_b b ns))

built : (f : Formula) → large_signal f ≡ false → (ns : List Node) → Built ns (nodes f ns) false
unfolding nodes large_signal
built (weak b) w ns = one_built 4 (omega arith) refl refl refl (built_b b w ns)
built (strong b) w ns = one_built 5 (omega arith) refl refl refl (built_b b w ns)
built (fnot f) w ns = one_built 6 (omega arith) refl refl refl (built f w ns)
built (fand f g) w ns =
    let (p, q) = or_parts (large_signal f) (large_signal g) w in
    two_built 7 (omega arith) refl refl refl (built f p ns) (built g q (nodes f ns))
built (next f) w ns = one_built 8 (omega arith) refl refl refl (built f w ns)
built (until f g) w ns =
    let (p, q) = or_parts (large_signal f) (large_signal g) w in
    two_built 9 (omega arith) refl refl refl (built f p ns) (built g q (nodes f ns))
built (abort f b) w ns =
    let (p, q) = or_parts (large_signal f) (large_signal_b b) w in
    two_built 10 (omega arith) refl refl refl (built f p ns) (built_b b q (nodes f ns))

-- ── The check ──

module _ (ms : List Node) (b : Built [] ms false) (few : length ms ≤ psl_rules.most) where
  abbrev t : List ℕ
  t = numbers_of ms

  used_at : (j : ℕ) → uses t j ≡ used ms j
  unfolding names_at
  used_at j =
      ap (total (names_at t j)) (count-numbers ms)
      ∙ total-same (names_at t j) (λ i. naming (node_of ms i) j) (length ms) (λ i h. ap (λ (n : Node). naming n j) (sym (node-numbers ms i h)))

  used_once : (j : ℕ) → j < last ms → used ms j ≡ 1
  unfolding total
  used_once j h =
      omega (
        arith,
        b.grown.named j,
        ap oneIf (ne_eqb (last ms) j (λ e. omega arith)),
        ap oneIf (le-ltb j 0 (omega arith)),
        ap oneIf (lt-ltb j (length ms) (omega arith)),
      )

  nodes_fine : table_refusal psl_rules t ≡ none
  nodes_fine = nodes_pass psl_rules ms b.grown.passes (omega (arith, b.more)) few

  uses_fine : (j : ℕ) → j < count t - 1 → use_refusal t j ≡ none
  unfolding use_refusal
  uses_fine j h = rw (eq-eqb (uses t j) 1 (used_at j ∙ used_once j (omega (arith, count-numbers ms)))) refl

  root-formula : is_boolean psl_rules t (count t - 1) ≡ false
  root-formula = ap (λ (n : ℕ). is_boolean psl_rules t (n - 1)) (count-numbers ms) ∙ sort_numbers psl_rules ms (last ms) (omega (arith, b.more)) ∙ b.sort

  fine : psl_refusal t ≡ none
  fine = psl_then t nodes_fine ∙ root_fine t (none-refused (use_refusal t) (count t - 1) uses_fine) root-formula

-- A formula's closing table is accepted, within the limits.
pub closing_accepted : (f : Formula) → length (closing_nodes f) ≤ psl_rules.most → large_signal f ≡ false → psl_refusal (numbers_of (closing_nodes f)) ≡ none
closing_accepted f h l = fine (closing_nodes f) (built f l []) h
