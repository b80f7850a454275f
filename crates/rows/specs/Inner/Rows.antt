-- Rows: the truths of an LTL tree on a trace, in the bits of one number, a bit for each letter of the two lists, the last letter's the lowest.
use Rattle.std.specs.Prelude.{◌≡◌, ℕ, suc, ◌+◌, ◌-◌, ◌%◌, ◌<◌, ◌≤◌, Bool, cond, ◌&&◌, ◌||◌, T, ◌↔◌, List, length, nat_lt, slice_index, slice_index_or, Option, Some, None}
use Rattle.logic.specs.Letter.{bit, signals}
use Rattle.trace.specs.Limits.{most_letters}
use Rattle.trace.specs.declared.TraceView.{TraceView}
use Rattle.logic.specs.Trace.{letter_at, size, InTrace}
use Rattle.table.specs.Node.{node, count}
use Rattle.logic.specs.Tree.{Ltl}
use Rattle.logic.specs.LtlMeaning.{LtlHolds}
use Rattle.ltl.specs.Table.{tree_of_node, tree_at}
use Rattle.ltl.specs.Check.{LeftOperand, RightOperand}

-- The bit of moment m: how many letters of both lists stand after its letter. Past the lead-in it goes round the loop.
unfoldable pub bit_of : List ℕ → List ℕ → ℕ → ℕ
bit_of lead loop m = cond (nat_lt m (length lead)) (size lead loop - 1 - m) (length loop - 1 - (m - length lead) % length loop)

-- Row w tells tree x: at every moment inside the trace, going round the loop too, x holds exactly where the moment's bit is set.
pub record Tells (lead loop : List ℕ) (w : ℕ) (x : Ltl) : Type 0 where
  pub at : (m : ℕ) → InTrace (letter_at lead loop) m → LtlHolds x (letter_at lead loop) m ↔ T (bit w (bit_of lead loop m))

-- A trace that a row has room for: it has a letter, and no more than a verdict takes.
pub record FitsRow (lead loop : List ℕ) : Type 0 where
  pub some : 0 < size lead loop
  pub most : size lead loop ≤ most_letters

-- Row w tells tree x on trace t, where a row has room for t: a premise, so that no function asks it of its callers.
abbrev pub TellsOn : TraceView → ℕ → Ltl → Type 0
TellsOn t w x = FitsRow t.lead.now t.cycle.now → Tells t.lead.now t.cycle.now w x

-- Row w has signal k at each letter of a list, as far as there are bits: letter i has m letters after it.
abbrev pub SignalIn : List ℕ → ℕ → ℕ → Type 0
SignalIn s k w = (i m : ℕ) → i + m + 1 ≡ length s → m < most_letters → bit w m ≡ bit (slice_index s i) k

-- The row that stands at place k, if one does, has signal k at each letter of a list.
pub record SignalsIn (s : List ℕ) (rows : List (Option ℕ)) : Type 0 where
  pub row : (k w : ℕ) → k < signals → slice_index_or rows k None ≡ Some w → SignalIn s k w

-- Until in one sweep from the last letter back: the second operand, or the first and the until that follows. The carry follows the last letter.
pub record Swept (f g : ℕ) (carry : Bool) (r : ℕ) : Type 0 where
  pub last : bit r 0 ≡ bit g 0 || bit f 0 && carry
  pub before : (m : ℕ) → suc m < most_letters → bit r (suc m) ≡ bit g (suc m) || bit f (suc m) && bit r m

-- Row w tells a node of kind k and left place l, whatever trees rows a and b tell of its operands, where the kind has such.
abbrev pub TellsNode : List ℕ → List ℕ → ℕ → ℕ → ℕ → ℕ → ℕ → Type 0
TellsNode lead loop k l a b w =
    (x : ℕ → Ltl) (r : ℕ) → (LeftOperand k → Tells lead loop a (x l)) → (RightOperand k → Tells lead loop b (x r)) → Tells lead loop w (tree_of_node x (node k l r))

-- Word i of a list is the row of node i, for each node of LTL table t.
pub record RowsOf (lead loop t rows : List ℕ) : Type 0 where
  pub row : (i : ℕ) → i < count t → Tells lead loop (slice_index rows i) (tree_at t i)
