-- What an accepted LTL table gives to those that walk over it: its size, and that operands come before their users.
use Prim.Native.Nat.{ℕ, ◌≤◌, ◌<◌}
use mathlib.Core.Path.{◌≡◌, refl}
use mathlib.Core.Option.{none}
use mathlib.Core.List.{List}
use native.Mathlib.Omega.{arith}
use Rattle.logic.specs.Letter.{signals}
use Rattle.table.specs.Node.{count, kind_at, left_at, right_at}
use Rattle.table.specs.Rules.{unused, shape_of}
use Rattle.table.specs.Check.{is_boolean}
use Rattle.table.proofs.CheckLaw.{Fits, fit_below, fit_unused, table-sized, kind_in, left-fits, right_fits}
use Rattle.table.proofs.KindLaw.{each, ◌⨾◌}
use Rattle.ltl.specs.Check.{ltl_rules, LeftOperand, RightOperand, ltl_refusal}

module _ (t : List ℕ) (fine : ltl_refusal t ≡ none) where
  pub some-node : 0 < count t
  some-node = (table-sized ltl_rules t fine).some

  pub most-nodes : count t ≤ ltl_rules.most
  most-nodes = (table-sized ltl_rules t fine).low

  module _ (i : ℕ) (inside : i < count t) where
    pub kind-known : kind_at t i < 7
    kind-known = kind_in ltl_rules t fine i inside

    pub is-var : kind_at t i ≡ 1 → left_at t i < signals
    is-var e = (left-fits ltl_rules t fine i inside 1 e).low

    abbrev Left : ℕ → Type 0
    Left k = Fits ltl_rules (shape_of ltl_rules k).0 (left_at t i) i (is_boolean ltl_rules t (left_at t i))

    abbrev Right : ℕ → Type 0
    Right k = Fits ltl_rules (shape_of ltl_rules k).1 (right_at t i) i (is_boolean ltl_rules t (right_at t i))

    left : Left (kind_at t i)
    left = left-fits ltl_rules t fine i inside (kind_at t i) refl

    right : Right (kind_at t i)
    right = right_fits ltl_rules t fine i inside (kind_at t i) refl

    -- An operand comes before its user, and an unused place holds 0.
    pub left_below : LeftOperand (kind_at t i) → left_at t i < i
    left_below = fit_below left

    pub right_below : RightOperand (kind_at t i) → right_at t i < i
    right_below = fit_below right

    pub left-unused : (shape_of ltl_rules (kind_at t i)).0 ≡ unused → left_at t i ≡ 0
    left-unused = fit_unused left

    pub right_unused : (shape_of ltl_rules (kind_at t i)).1 ≡ unused → right_at t i ≡ 0
    right_unused = fit_unused right

    -- In a node that is no signal both are below any bound on the node's own.
    pub operands_below : (kind_at t i ≡ 1 → ⊥) → (m : ℕ) → i < m → (left_at t i < m) × (right_at t i < m)
    operands_below other m n =
        each (λ k. Left k → Right k → (k ≡ 1 → ⊥) → (left_at t i < m) × (right_at t i < m)) 7
        ((λ x y d. (omega (arith, x.low), omega (arith, y.low)))
        ⨾ (λ x y d. absurd (d refl))
        ⨾ (λ x y d. (omega (arith, x.low), omega (arith, y.low)))
        ⨾ (λ x y d. (omega (arith, x.low), omega (arith, y.low)))
        ⨾ (λ x y d. (omega (arith, x.low), omega (arith, y.low)))
        ⨾ (λ x y d. (omega (arith, x.low), omega (arith, y.low)))
        ⨾ (λ x y d. (omega (arith, x.low), omega (arith, y.low)))
        ⨾ tt) (kind_at t i) (kind_in ltl_rules t fine i inside) left right other
