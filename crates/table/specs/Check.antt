-- What both checks share: the first refusal that applies to a table, by its rules.
use Rattle.std.specs.Prelude.{Bool, true, ◌&&◌, List, ℕ, ◌/◌, ◌%◌, eqb, ltb, leb, length}
use Rattle.std.specs.Bool.{beq}
use Rattle.std.proofs.Math.Option.{Option, none, some}
use Rattle.logic.specs.Letter.{signals}
use Rattle.trace.specs.declared.refusal.Refusal.{Refusal}
use Rattle.table.specs.Node.{Node, node, count, kind_at, left_at, right_at, node_at}
use Rattle.trace.specs.Refusal.{unless, lowest}
use Rattle.table.specs.Rules.{Use, unused, signal, operand, Sorts, Rules, known, shape_of, boolean_kind}

-- ── The tests of a place that holds n ──

-- An unused place holds 0.
abbrev pub unused_fits : Use → ℕ → Bool
unused_fits unused n = eqb n 0
unused_fits signal n = true
unused_fits (operand b) n = true

-- A signal is one of those that there are.
abbrev pub signal_fits : Use → ℕ → Bool
signal_fits unused n = true
signal_fits signal n = ltb n signals
signal_fits (operand b) n = true

-- An operand is below its user, node i.
abbrev pub operand_fits : Use → ℕ → ℕ → Bool
operand_fits unused n i = true
operand_fits signal n i = true
operand_fits (operand b) n i = ltb n i

-- An operand, Boolean if s, is of the place's sort.
abbrev pub sort_fits : Use → Bool → Bool
sort_fits unused s = true
sort_fits signal s = true
sort_fits (operand b) s = beq s b

-- ── The refusals ──

-- The length n of a table: in threes, of one node or more, and not above the most.
abbrev pub length_fits : ℕ → ℕ → Bool
length_fits most n = (eqb (n % 3) 0 && ltb 0 (n / 3)) && leb (n / 3) most

-- The sorts of the operands of node i, Booleans if lb and rb.
abbrev pub sort_refusal : Option Sorts → Use × Use → ℕ → Bool → Bool → Option Refusal
sort_refusal none h i lb rb = none
sort_refusal (some s) h i lb rb = unless (sort_fits h.0 lb && sort_fits h.1 rb) (s.refusal i) none

-- The places of node i: left and right by one test, then both by the next.
unfoldable pub places_refusal : Rules → Use × Use → ℕ → ℕ → ℕ → Bool → Bool → Option Refusal
places_refusal R h i l r lb rb =
    let p = h.0 in
    let q = h.1 in
    unless (unused_fits p l && unused_fits q r) (R.refusals.unused i)
    (unless (signal_fits p l && signal_fits q r) (R.refusals.signal i)
    (unless (operand_fits p l i && operand_fits q r i) (R.refusals.operand i)
    (sort_refusal R.sorts h i lb rb)))

-- Node i: its kind, then its places.
unfoldable pub node_refusal : Rules → ℕ → Node → Bool → Bool → Option Refusal
node_refusal R i (node k l r) lb rb =
    unless (known R k) (R.refusals.kind i) (places_refusal R (shape_of R k) i l r lb rb)

-- Node i is a Boolean.
abbrev pub is_boolean : Rules → List ℕ → ℕ → Bool
is_boolean R t i = boolean_kind R.sorts (kind_at t i)

unfoldable pub refusal_at : Rules → List ℕ → ℕ → Option Refusal
refusal_at R t i = node_refusal R i (node_at t i) (is_boolean R t (left_at t i)) (is_boolean R t (right_at t i))

-- The length first, then the lowest node that is refused.
unfoldable pub table_refusal : Rules → List ℕ → Option Refusal
table_refusal R t =
    unless (length_fits R.most (length t)) R.refusals.length
    (lowest (refusal_at R t) (count t))
