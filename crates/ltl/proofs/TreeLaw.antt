-- The tree of each node of an accepted LTL table.
use mathlib.Core.Path.{◌≡◌, refl}
use mathlib.Core.Option.{none}
use mathlib.Core.List.{List}
use Prim.Native.Nat.{ℕ, ◌-◌, ◌<◌}
use Rattle.table.specs.Node.{node, count, node_at}
use Rattle.table.specs.Rules.{shape_of}
use Rattle.table.proofs.KindLaw.{each, ◌⨾◌}
use Rattle.table.proofs.ValueLaw.{Same, Local, root_value, value_of}
use Rattle.logic.specs.Tree.{ltrue}
use Rattle.ltl.specs.Table.{tree_of_node, tree_of, tree_at}
use Rattle.ltl.specs.Check.{ltl_rules, ltl_refusal}

tree_local : Local ltl_rules tree_of_node
unfolding tree_of_node
tree_local x y l r =
    each (λ k. Same (shape_of ltl_rules k).0 x y l → Same (shape_of ltl_rules k).1 x y r → tree_of_node x (node k l r) ≡ tree_of_node y (node k l r)) 7
    ((λ p q. refl)
    ⨾ (λ p q. refl)
    ⨾ (λ p q. rw (p refl))
    ⨾ (λ p q. rw (p refl, q refl))
    ⨾ (λ p q. rw (p refl, q refl))
    ⨾ (λ p q. rw (p refl))
    ⨾ (λ p q. rw (p refl, q refl))
    ⨾ tt)

-- A node's tree, by its kind and its operands' trees.
pub tree_node : (t : List ℕ) → ltl_refusal t ≡ none → (i : ℕ) → i < count t → tree_at t i ≡ tree_of_node (tree_at t) (node_at t i)
unfolding tree_at
tree_node t fine i h = value_of ltrue tree_of_node t ltl_rules tree_local fine i h

-- The table's tree is its last node's.
pub tree_root : (t : List ℕ) → tree_of t ≡ tree_at t (count t - 1)
unfolding tree_of tree_at
tree_root t = root_value ltrue tree_of_node t
