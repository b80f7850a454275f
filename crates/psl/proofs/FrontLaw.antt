-- The front of a list up to a node: where the list passed the tests of nodes, so does the front, and its last node stands for what that node does.
use Prim.Native.Nat.{ℕ, zero, suc, ◌+◌, ◌*◌, ◌-◌, ◌%◌, ◌≤◌, ◌<◌}
use mathlib.Core.Path.{◌≡◌, refl, ap, ◌∙◌}
use mathlib.Core.Bool.{true}
use mathlib.Core.Option.{none}
use mathlib.Core.List.{List, [], ◌∷◌}
use native.Mathlib.Omega.{arith}
use borrow.Author.Tests.{eq-eqb, lt-ltb, le-leb}
use lib.ListN.{length, take}
use Rattle.std.proofs.lemmas.List.{get_or-take, length-take-le}
use Rattle.table.specs.Node.{Node, node, nodes_of, count, kind_at, left_at, right_at, root, value_at, look, grow}
use Rattle.table.specs.Rules.{boolean_kind}
use Rattle.table.specs.Check.{length_fits, refusal_at, table_refusal}
use Rattle.table.proofs.NodeLaw.{length-nodes, look-take}
use Rattle.table.proofs.ValueLaw.{root_value}
use Rattle.table.proofs.CheckLaw.{Sound, table-sized, table_sound, fit_below, fits-same, node-none, none-refused, refused_none}
use Rattle.logic.specs.Formula.{btrue}
use Rattle.psl.specs.Table.{boolean, as_boolean, as_formula, part_of, boolean_of, formula_of}
use Rattle.psl.specs.Check.{psl_rules}
use Rattle.psl.specs.Inner.Parts.{part_at, boolean_at, formula_at}
use Rattle.psl.specs.Inner.Sort.{IsBooleanAt, IsFormulaAt}

nodes_take : (t : List ℕ) (k m : ℕ) → m ≡ 3 * k → m ≤ length t → nodes_of (take m t) ≡ take k (nodes_of t)
nodes_take t zero m e h = let z : m ≡ 0 = omega arith in rw z refl
nodes_take [] (suc k) m e h = absurd (omega arith)
nodes_take (a ∷ []) (suc k) m e h = absurd (omega arith)
nodes_take (a ∷ b ∷ []) (suc k) m e h = absurd (omega arith)
nodes_take (a ∷ b ∷ c ∷ t) (suc k) m e h =
    let z : m ≡ suc (suc (suc (3 * k))) = omega arith in
    rw z (ap (λ (ns : List Node). node a b c ∷ ns) (nodes_take t k (3 * k) refl (omega arith)))

module _ (t : List ℕ) (u : table_refusal psl_rules t ≡ none) (n : ℕ) (inside : n < count t) where
  abbrev pub front : List ℕ
  front = take (3 * n + 3) t

  pub length-front : length front ≡ 3 * n + 3
  length-front = length-take-le (3 * n + 3) t (omega arith)

  last-is : count front - 1 ≡ n
  last-is = omega (arith, length-front)

  -- ── The tests ──

  module _ (j : ℕ) (h : j ≤ n) where
    kind-same : kind_at front j ≡ kind_at t j
    kind-same = get_or-take (3 * n + 3) t (3 * j) 0 (omega arith)

    left-same : left_at front j ≡ left_at t j
    left-same = get_or-take (3 * n + 3) t (3 * j + 1) 0 (omega arith)

    right-same : right_at front j ≡ right_at t j
    right-same = get_or-take (3 * n + 3) t (3 * j + 2) 0 (omega arith)

  sound : (j : ℕ) → j ≤ n → Sound psl_rules front j
  sound j h =
      let s = table_sound psl_rules t u j (omega arith) in
      record {
        kind = rw (kind-same j h) s.kind;
        left =
            rw (kind-same j h, left-same j h)
            (fits-same s.left (λ d. ap (boolean_kind psl_rules.sorts) (kind-same (left_at t j) (omega (arith, fit_below s.left d)))));
        right =
            rw (kind-same j h, right-same j h)
            (fits-same s.right (λ d. ap (boolean_kind psl_rules.sorts) (kind-same (right_at t j) (omega (arith, fit_below s.right d)))));
      }

  pub front_passes : table_refusal psl_rules front ≡ none
  front_passes =
      refused_none psl_rules front fits (count front) refl
      (none-refused (refusal_at psl_rules front) (count front) (λ j h. node-none psl_rules front j (sound j (omega (arith, length-front)))))
    where
      fits : length_fits psl_rules.most (length front) ≡ true
      fits =
          rw (
            eq-eqb (length front % 3) 0 (omega (arith, length-front)),
            lt-ltb 0 (count front) (omega (arith, length-front)),
            le-leb (count front) psl_rules.most (omega (arith, length-front, (table-sized psl_rules t u).low)),
          )

  -- ── Its last node ──

  pub front-boolean : IsBooleanAt t n → IsBooleanAt front (count front - 1)
  front-boolean b = rw last-is (omega (arith, length-front), omega (arith, kind-same n (omega arith), b.1))

  pub front-formula : IsFormulaAt t n → IsFormulaAt front (count front - 1)
  front-formula b = rw last-is (omega (arith, length-front), omega (arith, kind-same n (omega arith), b.1))

  front_part : root (boolean btrue) part_of front ≡ part_at t n
  unfolding part_at
  front_part =
      let d = boolean btrue in
      root_value d part_of front
      ∙ ap (value_at d part_of front) last-is
      ∙ ap (λ (ns : List Node). look d part_of (grow d part_of [] ns) n) (nodes_take t (n + 1) (3 * n + 3) (omega arith) (omega arith))
      ∙ look-take d part_of (nodes_of t) (n + 1) n (omega arith) (omega (arith, length-nodes t))

  pub front-is_boolean : boolean_of front ≡ boolean_at t n
  unfolding boolean_of
  front-is_boolean = ap as_boolean front_part

  pub front-is_formula : formula_of front ≡ formula_at t n
  unfolding formula_of
  front-is_formula = ap as_formula front_part
