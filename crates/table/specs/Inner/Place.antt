-- What the code's places mean, and the tests of a place as the loops make them.
use Rattle.std.specs.Prelude.{Bool, true, ◌&&◌, ℕ, ltb}
use Rattle.std.proofs.Math.Option.{Option, none, some}
use Rattle.logic.specs.Letter.{signals}
use Rattle.table.specs.declared.place.Place.{Place}
use Rattle.table.specs.declared.place.Place.TheVariants.{Unused, Signal, Formula, Boolean}
use Rattle.table.specs.Rules.{Use, unused, signal, operand, boolean, formula, Sorts, Rules, known, shape_of}
use Rattle.table.specs.Node.{Node, node}
use Rattle.table.specs.Check.{sort_fits}

abbrev pub use_of : Place → Use
use_of Unused = unused
use_of Signal = signal
use_of Formula = formula
use_of Boolean = boolean

abbrev pub uses_of : Place × Place → Use × Use
uses_of h = (use_of h.0, use_of h.1)

-- The number of an operand, or else m.
abbrev pub operand_or : Use → ℕ → ℕ → ℕ
operand_or unused n m = m
operand_or signal n m = m
operand_or (operand b) n m = n

-- ── The tests of a place that holds n ──

-- All but that of the sort at once: what a place of node i holds is below this.
abbrev pub bound : Use → ℕ → ℕ
bound unused i = 1
bound signal i = signals
bound (operand b) i = i

abbrev pub low_fits : Use → ℕ → ℕ → Bool
low_fits u n i = ltb n (bound u i)

-- The sort, if there are two.
abbrev pub sorts_fit : Option Sorts → Use → Bool → Bool
sorts_fit none u b = true
sorts_fit (some s) u b = sort_fits u b

-- All tests.
abbrev pub all_fit : Rules → Use → ℕ → ℕ → Bool → Bool
all_fit R u n i b = sorts_fit R.sorts u b && low_fits u n i

-- Node i is of a kind that there is, and what its places hold is low enough.
abbrev pub node_low : Rules → ℕ → Node → Bool
node_low R i (node k l r) = known R k && (low_fits (shape_of R k).0 l i && low_fits (shape_of R k).1 r i)
