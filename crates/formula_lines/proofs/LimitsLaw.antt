-- What the limits of a formula line say of its formula; where there is room for the largest table, 23 is never due.
use mathlib.Core.Path.{◌≡◌, refl}
use mathlib.Core.Bool.{Bool, not}
use mathlib.Core.Option.{none, some}
use Prim.Native.Nat.{ℕ, ◌*◌, ◌≤◌}
use native.Mathlib.Omega.{arith}
use borrow.Author.Tests.{leb-true, le-leb, not-true}
use lib.Dec.{leb}
use lib.ListN.{length}
use Rattle.table.specs.Node.{numbers_of}
use Rattle.trace.specs.declared.refusal.Refusal.TheVariants.{ManyNodes, LargeSignal, ListRoom}
use Rattle.std.specs.Prelude.{None}
use Rattle.trace.specs.declared.refusal.Refusal.{Refusal}
use Rattle.trace.specs.Refusal.{place}
use Rattle.logic.specs.Written.{Written, spelled_out}
use Rattle.psl.specs.Check.{psl_rules, psl_refusal}
use Rattle.text.proofs.LimitsLaw.{passed, unplaced, or_unplaced, third}
use Rattle.psl.specs.Closing.{large_signal}
use Rattle.formula_lines.specs.FormulaAnswer.{table_nodes, formula_limits, formula_refusal}
use Rattle.psl.proofs.ClosingCheckLaw.{closing_accepted}

module _ (w : Written) where
  abbrev few : Bool
  few = leb (length (table_nodes w)) psl_rules.most

  abbrev small : Bool
  small = not (large_signal (spelled_out w))

  pub limits-few : formula_limits w ≡ none → length (table_nodes w) ≤ psl_rules.most
  unfolding formula_limits
  limits-few e = leb-true _ _ (passed few small ManyNodes LargeSignal e).0

  -- The table passes the PSL check.
  pub limits-accepted : formula_limits w ≡ none → psl_refusal (numbers_of (table_nodes w)) ≡ none
  unfolding formula_limits
  limits-accepted e =
      let (p, q) = passed few small ManyNodes LargeSignal e in
      closing_accepted (spelled_out w) (leb-true _ _ p) (not-true (large_signal (spelled_out w)) q)

  -- No limit carries a place.
  pub limits-unplaced : (z : Refusal) → formula_limits w ≡ some z → place z ≡ None
  unfolding formula_limits
  limits-unplaced z e = unplaced few small ManyNodes LargeSignal refl refl z e

  pub refusal-unplaced : (room : ℕ) (z : Refusal) → formula_refusal room w ≡ some z → place z ≡ None
  unfolding formula_refusal
  refusal-unplaced room z e = or_unplaced (formula_limits w) limits-unplaced _ ListRoom refl z e

  pub formula-room : (room : ℕ) → 3 * psl_rules.most ≤ room → formula_refusal room w ≡ formula_limits w
  unfolding formula_limits formula_refusal
  formula-room room h =
      third few small (leb (3 * length (table_nodes w)) room) ManyNodes LargeSignal ListRoom (λ p q. le-leb (3 * length (table_nodes w)) room (omega (arith, leb-true (length (table_nodes w)) psl_rules.most p)))
