-- Nodes that are written behind those that are there, and the nodes of each short form.
use Rattle.std.specs.Prelude.{◌≡◌, Bool, false, ◌||◌, List, [], ◌∷◌, ◌++◌, ℕ, zero, suc, ◌+◌, ◌-◌, ◌*◌, ◌<◌, cond, length, min, eqb, ltb}
use Rattle.std.proofs.lemmas.List.Edits.{sets}
use Rattle.table.specs.Node.{Node, node, numbers_of}
use Rattle.psl.specs.Check.{psl_rules}
use Rattle.psl.specs.Kind.{number}
use Rattle.psl.specs.declared.kind.Kind.TheVariants.{True, Strong, Not, And, Next, Until}
use Rattle.formula_lines.specs.declared.keywords.Short.{Short}
use Rattle.formula_lines.specs.Inner.Kinds.{short_number}

-- Nodes are counted up to this number, one more than a PSL table may have: beyond that the line is refused.
abbrev pub full : ℕ
full = psl_rules.most + 1

-- Behind n nodes in the list l the nodes x were written, which gives m nodes and the list l'. Above the limit, and where some signal is too large,
-- nothing is said of the list.
pub record Writes (large : Bool) (x : List Node) (n : ℕ) (l : List ℕ) (m : ℕ) (l' : List ℕ) : Type 0 where
  pub counts : m ≡ min full (n + length x)
  pub writes : large ≡ false → m < full → l' ≡ sets l (3 * n) (numbers_of x)

-- ── The nodes of a form, by the number of its first ──

abbrev pub Nodes : Type 0
Nodes = ℕ → List Node

-- One node without an operand.
abbrev pub leaf : ℕ → ℕ → Nodes
leaf k v n = node k v 0 ∷ []

-- Behind x a node over it, and behind x and y a node over both.
unfoldable pub over : ℕ → Nodes → Nodes
over k x n = let m = n + length (x n) in x n ++ (node k (m - 1) 0 ∷ [])

unfoldable pub both : ℕ → Nodes → Nodes → Nodes
both k x y n = let m = n + length (x n) in let p = m + length (y m) in x n ++ (y m ++ (node k (m - 1) (p - 1) ∷ []))

-- ── Short forms, as `Written` spells them out ──

abbrev pub negated : Nodes → Nodes
negated x = over (number Not) x

-- Not x without y: `or` is so of its first operand negated, `implies` of it negated twice.
abbrev pub not_without : Nodes → Nodes → Nodes
not_without x y = negated (both (number And) x (negated y))

abbrev pub strong_true : Nodes
strong_true = over (number Strong) (leaf (number True) 0)

abbrev pub sometime : Nodes → Nodes
sometime x = both (number Until) strong_true x

abbrev pub forever : Nodes → Nodes
forever x = negated (sometime (negated x))

-- A kind of a node, and that of a short form.
abbrev pub of_node : ℕ → Bool
of_node k = ltb k (length psl_rules.kinds)

abbrev pub is : ℕ → Short → Bool
is k s = eqb k (short_number s)

-- Whether `strong true` stands before the operand of a kind, and how often `not` stands between its operands.
unfoldable pub opens : ℕ → Bool
opens k = is k Short.Eventually || is k Short.Always

unfoldable pub negations : ℕ → ℕ
negations k = cond (is k Short.Or || is k Short.Before) 1 (cond (is k Short.Implies || is k Short.Iff) 2 0)

abbrev pub ahead : ℕ → Nodes
ahead k = cond (opens k) strong_true (λ n. [])

abbrev pub times_negated : ℕ → Nodes → Nodes
times_negated zero x = x
times_negated (suc i) x = negated (times_negated i x)

-- The first operand x, and what stands between it and the second.
abbrev pub between : ℕ → Nodes → Nodes
between k x = times_negated (negations k) x

-- By the kind of the form, the nodes of its operands being x, or x and y.
unfoldable pub one_nodes : ℕ → Nodes → Nodes
one_nodes k x =
    cond (of_node k) (over k x)
    (cond (is k Short.Eventually) (sometime x)
    (cond (is k Short.Always) (forever x)
    (negated (over (number Next) (negated x)))))

unfoldable pub two_nodes : ℕ → Nodes → Nodes → Nodes
two_nodes k x y =
    cond (of_node k) (both k x y)
    (cond (is k Short.Iff) (both (number And) (not_without (negated (negated x)) y) (not_without (negated (negated y)) x))
    (cond (is k Short.WeakUntil) (not_without (negated (both (number Until) x y)) (forever x))
    (cond (is k Short.Before) (negated (both (number Until) (negated x) y))
    (not_without (between k x) y))))
