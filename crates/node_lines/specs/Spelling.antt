-- How the nodes of an LTL table are spelled.
use Rattle.std.specs.Prelude.{List, [], ◌∷◌, ◌++◌, map, ℕ, get_or, take}
use Rattle.table.specs.Node.{Node, node}
use Rattle.text.specs.Text.{text}
use Rattle.text.specs.Spelling.{digits, brackets}

-- The word of each kind, from 0 on.
unfoldable pub ltl_word : ℕ → List ℕ
ltl_word k =
    get_or (text "true" ∷ text "var" ∷ text "not" ∷ text "and" ∷ text "or" ∷ text "next" ∷ text "until" ∷ []) k []

-- How many of its two places each kind uses.
unfoldable pub ltl_places : ℕ → ℕ
ltl_places k = get_or (0 ∷ 1 ∷ 1 ∷ 2 ∷ 2 ∷ 1 ∷ 2 ∷ []) k 0

-- A node line, of a node and its own number; it ends with byte 10.
abbrev pub node_line : ℕ → Node → List ℕ
node_line i (node k l r) = brackets (digits i ∷ ltl_word k ∷ map digits (take (ltl_places k) (l ∷ r ∷ []))) ++ text "\n"
