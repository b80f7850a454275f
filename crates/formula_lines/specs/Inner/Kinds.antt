-- Kinds as the reader meets them, those of nodes and from 11 on the short forms: the keyword of each, and what stands in its brackets.
use Rattle.std.specs.Prelude.{List, [], ◌∷◌, ◌++◌, ℕ, zero, suc, ◌+◌, true, false, get_or}
use Rattle.table.specs.Rules.{Use, unused, signal, operand, formula}
use Rattle.psl.specs.Check.{psl_rules}
use Rattle.psl.specs.Kind.{number as kind_number}
use Rattle.text.specs.Text.{text}
use Rattle.formula_lines.specs.declared.keywords.Short.{Short}
use Rattle.formula_lines.specs.declared.keywords.Keyword.{Keyword}

-- The number of a keyword's kind: that of a node, and the short forms from 11 on.
abbrev pub short_number : Short → ℕ
short_number Short.Or = 11
short_number Short.Implies = 12
short_number Short.Iff = 13
short_number Short.WeakNext = 14
short_number Short.Eventually = 15
short_number Short.Always = 16
short_number Short.WeakUntil = 17
short_number Short.Before = 18

abbrev pub number : Keyword → ℕ
number (Keyword.Node k) = kind_number k
number (Keyword.Short s) = short_number s

-- The keyword of each kind from 0 on, with the space after it.
unfoldable pub keyword : ℕ → List ℕ
keyword k =
    get_or (
    []
    ∷ text "var "
    ∷ text "bnot "
    ∷ text "band "
    ∷ text "weak "
    ∷ text "strong "
    ∷ text "not "
    ∷ text "and "
    ∷ text "next "
    ∷ text "until "
    ∷ text "abort "
    ∷ text "or "
    ∷ text "implies "
    ∷ text "iff "
    ∷ text "wnext "
    ∷ text "eventually "
    ∷ text "always "
    ∷ text "wuntil "
    ∷ text "before "
    ∷ []
    ) k []

-- How many forms stand in a place, and of which sort: 0 for a Boolean and 1 for a formula.
abbrev pub forms : Use → ℕ
forms unused = 0
forms signal = 0
forms (operand b) = 1

abbrev pub sort : Use → ℕ
sort unused = 0
sort signal = 0
sort (operand true) = 0
sort (operand false) = 1

-- The places of a short form, from or on: one formula or two.
abbrev pub short_kinds : List (Use × Use)
short_kinds =
    (formula, formula)
    ∷ (formula, formula)
    ∷ (formula, formula)
    ∷ (formula, unused)
    ∷ (formula, unused)
    ∷ (formula, unused)
    ∷ (formula, formula)
    ∷ (formula, formula)
    ∷ []

-- The places of a kind: how many forms it takes, and the sorts of the left and of the right one.
unfoldable pub shape : ℕ → Use × Use
shape k = get_or (psl_rules.kinds ++ short_kinds) k (unused, unused)

abbrev pub arity : ℕ → ℕ
arity k = forms (shape k).0 + forms (shape k).1

abbrev pub left_sort : ℕ → ℕ
left_sort k = sort (shape k).0

abbrev pub right_sort : ℕ → ℕ
right_sort k = sort (shape k).1

-- The kinds of a sort that stand in brackets.
abbrev pub kinds : ℕ → List ℕ
kinds zero = 1 ∷ 2 ∷ 3 ∷ []
kinds (suc so) = 4 ∷ 5 ∷ 6 ∷ 7 ∷ 8 ∷ 9 ∷ 10 ∷ 11 ∷ 12 ∷ 13 ∷ 14 ∷ 15 ∷ 16 ∷ 17 ∷ 18 ∷ []
