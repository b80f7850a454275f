-- Tables of triples, as both kinds of table are: the nodes that a list of numbers stands for, and the value of each node by those before it.
use Rattle.std.specs.Prelude.{◌≡◌, ℕ, ◌+◌, ◌*◌, ◌-◌, ◌/◌, ◌<◌, List, [], ◌∷◌, ◌++◌, length, get_or}

-- A node: kind, left and right.
pub data Node : Type 0 where
  node : ℕ → ℕ → ℕ → Node

-- The nodes of a list of numbers, three a node.
abbrev pub nodes_of : List ℕ → List Node
nodes_of [] = []
nodes_of (k ∷ []) = []
nodes_of (k ∷ l ∷ []) = []
nodes_of (k ∷ l ∷ r ∷ t) = node k l r ∷ nodes_of t

-- The numbers of a list of nodes.
abbrev pub numbers_of : List Node → List ℕ
numbers_of [] = []
numbers_of (node k l r ∷ ns) = k ∷ l ∷ r ∷ numbers_of ns

-- How many nodes a list of numbers has, and the three numbers of node i.
abbrev pub count : List ℕ → ℕ
count t = length t / 3

abbrev pub kind_at : List ℕ → ℕ → ℕ
kind_at t i = get_or t (3 * i) 0

abbrev pub left_at : List ℕ → ℕ → ℕ
left_at t i = get_or t (3 * i + 1) 0

abbrev pub right_at : List ℕ → ℕ → ℕ
right_at t i = get_or t (3 * i + 2) 0

abbrev pub node_at : List ℕ → ℕ → Node
node_at t i = node (kind_at t i) (left_at t i) (right_at t i)

-- The nodes of a list of numbers as threes.
pub record NodesOf (t : List ℕ) (xs : List (List ℕ)) : Type 0 where
  pub nodes : length xs ≡ count t
  pub node_is : (i : ℕ) → i < count t → get_or xs i [] ≡ kind_at t i ∷ left_at t i ∷ right_at t i ∷ []

-- A list with one more at its end, which has the number `last`.
infixl 20 ◌▸◌
abbrev pub ◌▸◌ : {A : Type 0} → List A → A → List A
xs ▸ x = xs ++ x ∷ []

abbrev pub last : {A : Type 0} → List A → ℕ
last xs = length xs - 1

-- `make` gives a node's value from the values of the nodes before it, by their numbers; `d` stands where there is no such node.
module _ {A : Type 0} (d : A) (make : (ℕ → A) → Node → A) where
  abbrev pub look : List A → ℕ → A
  look xs j = get_or xs j d

  -- The values of further nodes, put behind those that are known.
  abbrev pub grow : List A → List Node → List A
  grow xs [] = xs
  grow xs (n ∷ ns) = grow (xs ▸ make (look xs) n) ns

  -- The values of all nodes of a table, and the root's, which is the last.
  abbrev pub values : List ℕ → List A
  values t = grow [] (nodes_of t)

  abbrev pub root : List ℕ → A
  root t = look (values t) (last (values t))

  -- The value of node i.
  abbrev pub value_at : List ℕ → ℕ → A
  value_at t i = look (values t) i
