-- What both checks owe to the code's tests: of the length, and of the node at which their loop stands.
use mathlib.Core.Path.{◌≡◌, refl, sym, ◌∙◌}
use mathlib.Core.Bool.{Bool, true, false, not, ◌&&◌}
use mathlib.Core.Option.{none, some}
use mathlib.Core.List.{List}
use Prim.Native.Nat.{ℕ}
use lib.ListN.{length}
use borrow.Author.Tests.{not-true, not-false, ltb-true, ltb-false}
use Rattle.std.proofs.lemmas.Bool.{and_parts}
use Rattle.table.specs.Node.{kind_at}
use Rattle.table.specs.Rules.{Rules, known}
use Rattle.table.specs.Check.{length_fits, refusal_at, table_refusal}
use Rattle.table.proofs.CheckLaw.{Fast, fast_none, fast_some, unknown_some, refused-length}

module _ (R : Rules) (t : List ℕ) where
  -- The test of the length, which answered b.
  module _ {b : Bool} (e : b ≡ length_fits R.most (length t)) where
    pub length-passed : not b ≡ false → length_fits R.most (length t) ≡ true
    length-passed d = sym e ∙ not-false b d

    pub length_failed : not b ≡ true → table_refusal R t ≡ some R.refusals.length
    length_failed d = refused-length R t (sym e ∙ not-true b d)

  -- All tests of node i.
  module _ (i : ℕ) where
    pub node_passed : known R (kind_at t i) && Fast R t i ≡ true → refusal_at R t i ≡ none
    node_passed e = let d = and_parts (known R (kind_at t i)) (Fast R t i) e in fast_none R t i (ltb-true _ _ d.0) d.1

    pub node_failed : known R (kind_at t i) && Fast R t i ≡ false → refusal_at R t i ≡ none → ⊥
    node_failed = go (known R (kind_at t i)) refl
      where
        go : (b : Bool) → known R (kind_at t i) ≡ b → b && Fast R t i ≡ false → refusal_at R t i ≡ none → ⊥
        go true k e = fast_some R t i e
        go false k e = unknown_some R t i (ltb-false _ _ k)
