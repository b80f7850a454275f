-- What the reader of forms promises.
use Rattle.std.specs.Prelude.{◌≡◌, ◌⊎◌, Bool, false, Option, Some, None, Result, Ok, Err, List, [], ◌++◌, ℕ, ◌≤◌, ◌<◌, length, get_or, drop, filter, eqb, T}
use Rattle.table.specs.Rules.{Use}
use Rattle.logic.specs.Written.{Written, spelled_out}
use Rattle.text.specs.Text.{text}
use Rattle.formula_lines.specs.Spelling.{formula_line}
use Rattle.formula_lines.specs.FormulaAnswer.{table_nodes}
use Rattle.psl.specs.Closing.{large_signal}
use Rattle.text.specs.Inner.Places.{Language, Begins, Stands, Halts, Stops, StopsLine}
use Rattle.text.specs.Inner.Number.{NoDigit}
use Rattle.formula_lines.specs.Inner.Kinds.{number, keyword, forms, sort, arity, left_sort, right_sort, kinds}
use Rattle.formula_lines.specs.Inner.Writes.{full, Writes, Nodes, not_without, strong_true, forever, ahead, between, one_nodes, two_nodes}
use Rattle.formula_lines.specs.Inner.Form.{Form, truth, signal, one, two, Sorted, OfKind, bytes, inner, nodes_from, wide}
use Rattle.text.specs.Inner.Words.{elem}
use Rattle.text.specs.declared.scan.Fault.{Fault}
use Rattle.formula_lines.specs.declared.keywords.Sort.{Sort}
use Rattle.formula_lines.specs.declared.keywords.Keyword.{Keyword}
use Rattle.formula_lines.specs.declared.keywords.Parts.{Parts}
use Rattle.formula_lines.specs.declared.keywords.Parts.TheVariants.{Signal, One, Two}
use Rattle.formula_lines.specs.declared.forms.Read.{Read}

-- ── Sorts and kinds ──

-- A sort's number: 0 for a Boolean and 1 for a formula.
abbrev pub sort_number : Sort → ℕ
sort_number Sort.Boolean = 0
sort_number Sort.Formula = 1

-- ── Words ──

abbrev pub KeywordOf : List ℕ → Language
KeywordOf ks w = (k : ℕ) × T (elem k ks) × (w ≡ keyword k)

-- Up to a place none of the keywords stands. At the first place none need have begun.
abbrev pub NoneOf : List ℕ → List ℕ → ℕ → ℕ → Type 0
NoneOf ks = Halts (λ w. (w ≡ []) ⊎ KeywordOf ks w) (Begins (KeywordOf ks))

-- The kinds of a sort whose keyword begins with a byte.
unfoldable pub kinds_starting : ℕ → ℕ → List ℕ
kinds_starting so b = filter (λ k. eqb (get_or (keyword k) 0 0) b) (kinds so)

abbrev pub KeywordRead : List ℕ → List ℕ → ℕ → ℕ → Result Keyword Fault → Type 0
KeywordRead ks s at next (Ok k) = T (elem (number k) ks) × Stands (keyword (number k)) s at next
KeywordRead ks s at next (Err f) = NoneOf ks s at f.0

-- The sort of the form in a place, if one stands there.
abbrev pub FormIn : Use → Option Sort → Type 0
FormIn u None = forms u ≡ 0
FormIn u (Some so) = (forms u ≡ 1) × (sort u ≡ sort_number so)

-- What stands in a kind's brackets: as many forms as it takes, of their sorts.
abbrev pub PartsAre : ℕ → Parts → Type 0
PartsAre k Signal = arity k ≡ 0
PartsAre k (One l) = (arity k ≡ 1) × (left_sort k ≡ sort_number l)
PartsAre k (Two l r) = (arity k ≡ 2) × (left_sort k ≡ sort_number l) × (right_sort k ≡ sort_number r)

-- ── Nodes behind those that are written ──

-- What a kind has between its first operand, whose nodes are x, and the second.
abbrev pub PutBetween : ℕ → ℕ → List ℕ → ℕ → List ℕ → Type 0
PutBetween k m l m' l' =
    (b : Bool) (x : Nodes) (n : ℕ) (l₀ : List ℕ) → Writes b (x n) n l₀ m l → Writes b (between k x n) n l₀ m' l'

-- Behind the operand's nodes x, which begin at `start`: now all nodes of the kind.
abbrev pub ClosesOne : ℕ → ℕ → ℕ → List ℕ → ℕ → List ℕ → Type 0
ClosesOne k start m l m' l' =
    (b : Bool) (x : Nodes) (n : ℕ) (l₀ l₁ : List ℕ) → Writes b (ahead k n) n l₀ start l₁ → Writes b (x start) start l₁ m l
    → Writes b (one_nodes k x n) n l₀ m' l'

-- Behind the nodes x, which end before `start`, and the nodes y: now those of not x without y.
abbrev pub PutNotWithout : ℕ → ℕ → List ℕ → ℕ → List ℕ → Type 0
PutNotWithout start m l m' l' =
    (b : Bool) (x y : Nodes) (n : ℕ) (l₀ l₁ : List ℕ) → Writes b (x n) n l₀ start l₁ → Writes b (y start) start l₁ m l
    → Writes b (not_without x y n) n l₀ m' l'

-- Behind `strong true`, which ends before `start`, and the nodes x: now those of `always`.
abbrev pub PutForever : ℕ → ℕ → List ℕ → ℕ → List ℕ → Type 0
PutForever start m l m' l' =
    (b : Bool) (x : Nodes) (n : ℕ) (l₀ l₁ : List ℕ) → Writes b (strong_true n) n l₀ start l₁ → Writes b (x start) start l₁ m l
    → Writes b (forever x n) n l₀ m' l'

-- ── Forms ──

-- A kind that stands in brackets.
abbrev pub InBrackets : ℕ → Type 0
InBrackets k = (so : ℕ) × T (elem k (kinds so))

abbrev pub FormOf : ℕ → Language
FormOf so w = (f : Form) × Sorted so f × (w ≡ bytes f)

-- The operands of a kind, with the closing bracket.
abbrev pub OperandsOf : ℕ → Language
OperandsOf k w = (f : Form) × OfKind k f × (w ≡ inner f ++ text ")")

-- From place `at` of a line a form can be read, with n nodes there already.
pub record ReadFrom (s : List ℕ) (at n : ℕ) : Type 0 where
  pub few : n ≤ full
  pub within : at ≤ length s

-- A form that was read from place `at` and node n on: the count of nodes, whether a signal is too large, and the list l' that the list l
-- became.
pub record FormStands (f : Form) (s : List ℕ) (at n next nodes : ℕ) (large : Bool) (l l' : List ℕ) : Type 0 where
  pub stands : Stands (bytes f) s at next
  pub more : at < next
  pub signals : large ≡ wide f
  pub writes : Writes large (nodes_from f n) n l nodes l'

abbrev pub FormRead : ℕ → List ℕ → ℕ → ℕ → ℕ → List ℕ → List ℕ → Result Read Fault → Type 0
FormRead so s at next n l l' (Ok r) = (f : Form) × Sorted so f × FormStands f s at n next r.nodes r.large l l'
FormRead so s at next n l l' (Err f) = Stops (FormOf so) s at f.0

-- A number's end is told by what follows it.
abbrev pub Ended : Form → List ℕ → Type 0
Ended truth t = Unit {0}
Ended (signal n) t = NoDigit t
Ended (one k f) t = Unit {0}
Ended (two k f g) t = Unit {0}

-- The operands of the form f, whose nodes are all written.
pub record OperandsStand (f : Form) (s : List ℕ) (at n next nodes : ℕ) (large : Bool) (l l' : List ℕ) : Type 0 where
  pub stands : Stands (inner f) s at next
  pub ended : Ended f (drop next s)
  pub more : at < next
  pub signals : large ≡ wide f
  pub writes : Writes large (nodes_from f n) n l nodes l'

abbrev pub OperandsRead : ℕ → List ℕ → ℕ → ℕ → ℕ → List ℕ → List ℕ → Result Read Fault → Type 0
OperandsRead kind s at next n l l' (Ok r) = (f : Form) × OfKind kind f × OperandsStand f s at n next r.nodes r.large l l'
OperandsRead kind s at next n l l' (Err f) = Stops (OperandsOf kind) s at f.0

-- ── Operands that stand twice in the spelled-out line ──

-- The formula at a place is read once more: its nodes again, from n on.
abbrev pub ReadAgain : List ℕ → ℕ → ℕ → List ℕ → ℕ → List ℕ → Type 0
ReadAgain s at n l m l' =
    (b : Bool) (f : Form) (next : ℕ) → Sorted 1 f → Stands (bytes f) s at next → (b ≡ false → wide f ≡ false) → Writes b (nodes_from f n) n l m l'

-- The two operands of a kind stand in a line, from places `at` and `then` on.
pub record TwoStand (k : ℕ) (large : Bool) (f g : Form) (s : List ℕ) (at then : ℕ) : Type 0 where
  pub two : arity k ≡ 2
  pub sorted : Sorted (left_sort k) f × Sorted (right_sort k) g
  pub next : ℕ
  pub first : Stands (bytes f) s at next
  pub last : ℕ
  pub second : Stands (bytes g) s then last
  pub small : large ≡ false → (wide f ≡ false) × (wide g ≡ false)

-- Behind their nodes, those of f with what stands between them and those of g: now all nodes of the kind.
abbrev pub ClosesTwo : ℕ → List ℕ → ℕ → ℕ → ℕ → ℕ → List ℕ → ℕ → List ℕ → Type 0
ClosesTwo k s at then start m l m' l' =
    (b : Bool) (f g : Form) (n : ℕ) (l₀ l₁ : List ℕ) → TwoStand k b f g s at then → Writes b (between k (nodes_from f) n) n l₀ start l₁
    → Writes b (nodes_from g start) start l₁ m l → Writes b (two_nodes k (nodes_from f) (nodes_from g) n) n l₀ m' l'

-- ── A whole line ──

abbrev pub SpellsFormula : Language
SpellsFormula w = (f : Written) × (w ≡ formula_line f)

pub record WholeStands (f : Written) (s : List ℕ) (nodes : ℕ) (large : Bool) (l l' : List ℕ) : Type 0 where
  pub is : s ≡ formula_line f
  pub signals : large ≡ large_signal (spelled_out f)
  pub writes : Writes large (table_nodes f) 0 l nodes l'

abbrev pub WholeRead : List ℕ → List ℕ → List ℕ → Result Read Fault → Type 0
WholeRead s l l' (Ok r) = (f : Written) × WholeStands f s r.nodes r.large l l'
WholeRead s l l' (Err f) = StopsLine SpellsFormula s 0 f.0
