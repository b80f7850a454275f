-- Forms of either sort as the reader meets them: `true`, `(var K)`, or the keyword of a kind with one or two operands.
use Rattle.std.specs.Prelude.{◌≡◌, Bool, false, ◌||◌, List, [], ◌++◌, ℕ, T, leb}
use Rattle.logic.specs.Letter.{signals}
use Rattle.text.specs.Text.{text}
use Rattle.formula_lines.specs.Inner.Kinds.{keyword, arity, left_sort, right_sort, kinds}
use Rattle.formula_lines.specs.Inner.Writes.{Nodes, leaf, one_nodes, two_nodes}
use Rattle.text.specs.Inner.Words.{elem}
use Rattle.text.specs.Spelling.{digits}

pub data Form : Type 0 where
  truth : Form
  signal : ℕ → Form
  one : ℕ → Form → Form
  two : ℕ → Form → Form → Form

-- ── Forms of a sort, and of a kind ──

abbrev pub Sorted : ℕ → Form → Type 0
Sorted so truth = so ≡ 0
Sorted so (signal n) = so ≡ 0
Sorted so (one k f) = T (elem k (kinds so)) × (arity k ≡ 1) × Sorted (left_sort k) f
Sorted so (two k f g) = T (elem k (kinds so)) × (arity k ≡ 2) × Sorted (left_sort k) f × Sorted (right_sort k) g

abbrev pub OfKind : ℕ → Form → Type 0
OfKind k truth = ⊥
OfKind k (signal n) = k ≡ 1
OfKind k (one j f) = (k ≡ j) × (arity k ≡ 1) × Sorted (left_sort k) f
OfKind k (two j f g) = (k ≡ j) × (arity k ≡ 2) × Sorted (left_sort k) f × Sorted (right_sort k) g

-- ── Their bytes ──

unfoldable pub bytes : Form → List ℕ
bytes truth = text "true"
bytes (signal n) = text "(" ++ (keyword 1 ++ (digits n ++ text ")"))
bytes (one k f) = text "(" ++ (keyword k ++ (bytes f ++ text ")"))
bytes (two k f g) = text "(" ++ (keyword k ++ (bytes f ++ (text " " ++ (bytes g ++ text ")"))))

-- What stands between the keyword and the closing bracket.
abbrev pub inner : Form → List ℕ
inner truth = []
inner (signal n) = digits n
inner (one k f) = bytes f
inner (two k f g) = bytes f ++ (text " " ++ bytes g)

-- ── Their nodes ──

-- In closing order: a form's own node is the last.
unfoldable pub nodes_from : Form → Nodes
nodes_from truth = leaf 0 0
nodes_from (signal n) = leaf 1 n
nodes_from (one k f) = one_nodes k (nodes_from f)
nodes_from (two k f g) = two_nodes k (nodes_from f) (nodes_from g)

-- Whether some signal is not below `signals`.
unfoldable pub wide : Form → Bool
wide truth = false
wide (signal n) = leb signals n
wide (one k f) = wide f
wide (two k f g) = wide f || wide g
