-- The tree that an LTL table stands for.
use Rattle.std.specs.Prelude.{ℕ, List, [], ◌∷◌, get_or}
use Rattle.table.specs.Node.{Node, node, root, value_at}
use Rattle.logic.specs.Tree.{Ltl, ltrue, lvar, lnot, land, lor, lnext, luntil}

-- What each kind stands for, kind by kind from 0 on, with the trees that stand under its operands' numbers.
unfoldable pub tree_of_node : (ℕ → Ltl) → Node → Ltl
tree_of_node x (node k l r) =
    get_or (
    ltrue  -- 0 true
    ∷ lvar l  -- 1 var
    ∷ lnot (x l)  -- 2 not
    ∷ land (x l) (x r)  -- 3 and
    ∷ lor (x l) (x r)  -- 4 or
    ∷ lnext (x l)  -- 5 next
    ∷ luntil (x l) (x r)  -- 6 until
    ∷ []
    ) k ltrue

-- The tree of a table is its root's.
unfoldable pub tree_of : List ℕ → Ltl
tree_of t = root ltrue tree_of_node t

-- The tree of node i.
unfoldable pub tree_at : List ℕ → ℕ → Ltl
tree_at t i = value_at ltrue tree_of_node t i

-- The node of each kind, its kind number first.
abbrev pub true_node : Node
true_node = node 0 0 0

abbrev pub var_node : ℕ → Node
var_node k = node 1 k 0

abbrev pub not_node : ℕ → Node
not_node x = node 2 x 0

abbrev pub and_node : ℕ → ℕ → Node
and_node x y = node 3 x y

abbrev pub or_node : ℕ → ℕ → Node
or_node x y = node 4 x y

abbrev pub next_node : ℕ → Node
next_node x = node 5 x 0

abbrev pub until_node : ℕ → ℕ → Node
until_node x y = node 6 x y
