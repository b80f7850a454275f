-- The value of a node of a table that is not refused, by the values of its operands.
use Prim.Native.Nat.{ℕ, ◌-◌, ◌<◌}
use mathlib.Core.Path.{◌≡◌, ap, ◌∙◌}
use mathlib.Core.Bool.{true}
use mathlib.Core.List.{List, []}
use mathlib.Core.Option.{none}
use native.Mathlib.Omega.{arith}
use lib.ListN.{length, take}
use Rattle.table.specs.Node.{Node, node, nodes_of, count, kind_at, left_at, right_at, node_at, look, grow, root, value_at}
use Rattle.table.specs.Rules.{Use, Rules, is_operand, shape_of}
use Rattle.table.specs.Check.{table_refusal}
use Rattle.table.proofs.NodeLaw.{length-grow, length-nodes, node_at_lem, look-take, value_node}
use Rattle.table.proofs.CheckLaw.{table_sound, kind_in, fit_below}

-- ── Values ──

-- Two values agree where a place names an operand.
abbrev pub Same : {A : Type 0} → Use → (ℕ → A) → (ℕ → A) → ℕ → Type 0
Same u x y n = is_operand u ≡ true → x n ≡ y n

-- A node's value is made of its operands' alone.
abbrev pub Local : {A : Type 0} → Rules → ((ℕ → A) → Node → A) → Type 0
Local {A} R make = (x y : ℕ → A) (l r k : ℕ) → k < length R.kinds → Same (shape_of R k).0 x y l → Same (shape_of R k).1 x y r → make x (node k l r) ≡ make y (node k l r)

module _ {A : Type 0} (d : A) (make : (ℕ → A) → Node → A) (t : List ℕ) where
  pub root_value : root d make t ≡ value_at d make t (count t - 1)
  root_value = ap (λ (m : ℕ). value_at d make t (m - 1)) (omega (arith, length-grow d make [] (nodes_of t), length-nodes t))

  pub value_of : (R : Rules) → Local R make → table_refusal R t ≡ none → (i : ℕ) → i < count t → value_at d make t i ≡ make (value_at d make t) (node_at t i)
  value_of R local e i h =
      let n = length-nodes t in
      let s = table_sound R t e i h in
      let x = look d make (grow d make [] (take i (nodes_of t))) in
      value_node d make (nodes_of t) i (omega arith)
      ∙ ap (make x) (node_at_lem t i (omega arith))
      ∙ local x (value_at d make t) (left_at t i) (right_at t i) (kind_at t i) (kind_in R t e i h)
      (λ o. look-take d make (nodes_of t) i (left_at t i) (fit_below s.left o) (omega arith))
      (λ o. look-take d make (nodes_of t) i (right_at t i) (fit_below s.right o) (omega arith))
