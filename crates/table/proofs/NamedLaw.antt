-- The node that a refusal carries is the one that was checked.
use mathlib.Core.Path.{◌≡◌, refl, sym, ap, ◌∙◌, subst}
use mathlib.Core.Bool.{Bool, true, false}
use mathlib.Core.Option.{Option, none, some, some-injective}
use mathlib.Core.List.{List}
use Prim.Native.Nat.{ℕ, ◌≤◌}
use lib.ListN.{length}
use Rattle.std.specs.Prelude.{Option as Maybe, None, Some}
use Rattle.trace.specs.declared.refusal.Refusal.{Refusal}
use Rattle.trace.specs.Refusal.{place, unless, lowest, IsLowest}
use Rattle.trace.proofs.ReasonLaw.{of_none, of_unless, lowest_of}
use Rattle.std.proofs.lemmas.Option.{same_Some}
use Rattle.table.proofs.CheckLaw.{sized}
use Rattle.table.specs.Node.{Node, node, count, node_at}
use Rattle.table.specs.Rules.{Use, Sorts, Rules, shape_of}
use Rattle.table.specs.Check.{length_fits, sort_refusal, places_refusal, node_refusal, refusal_at, table_refusal}

-- Rules whose refusals of node i carry i, and that of the length nothing.
pub record Placing (R : Rules) : Type 0 where
  pub length : place R.refusals.length ≡ None
  pub kind : (i : ℕ) → place (R.refusals.kind i) ≡ Some i
  pub unused : (i : ℕ) → place (R.refusals.unused i) ≡ Some i
  pub signal : (i : ℕ) → place (R.refusals.signal i) ≡ Some i
  pub operand : (i : ℕ) → place (R.refusals.operand i) ≡ Some i
  pub sort : (s : Sorts) → R.sorts ≡ some s → (i : ℕ) → place (s.refusal i) ≡ Some i

-- A refusal that carries node i.
abbrev pub At : ℕ → Refusal → Type 0
At i x = place x ≡ Some i

pub one_node : (x : Refusal) (i j : ℕ) → At i x → At j x → i ≡ j
one_node x i j p q = same_Some i j (sym p ∙ q)

module _ (R : Rules) (P : Placing R) (x : Refusal) where
  sort_placed : (i : ℕ) (S : Option Sorts) → R.sorts ≡ S → (h : Use × Use) (lb rb : Bool) → sort_refusal S h i lb rb ≡ some x → At i x
  sort_placed i none q h lb rb e = of_none (At i) x e
  sort_placed i (some s) q h lb rb e = of_unless (At i) x _ (s.refusal i) none (P.sort s q i) (of_none (At i) x) e

  pub node_placed : (i : ℕ) (n : Node) (lb rb : Bool) → node_refusal R i n lb rb ≡ some x → At i x
  unfolding node_refusal places_refusal
  node_placed i (node k l r) lb rb =
      of_unless (At i) x _ (R.refusals.kind i) _ (P.kind i)
      (of_unless (At i) x _ (R.refusals.unused i) _ (P.unused i)
      (of_unless (At i) x _ (R.refusals.signal i) _ (P.signal i)
      (of_unless (At i) x _ (R.refusals.operand i) _ (P.operand i) (sort_placed i R.sorts refl (shape_of R k) lb rb))))

  at_placed : (t : List ℕ) (i : ℕ) → refusal_at R t i ≡ some x → At i x
  unfolding refusal_at
  at_placed t i e = node_placed i (node_at t i) _ _ e

  pub table_placed : (t : List ℕ) → table_refusal R t ≡ some x → (i : ℕ) → At i x → IsLowest (refusal_at R t) (count t) x i × (count t ≤ R.most)
  unfolding table_refusal
  table_placed t e i p = go (length_fits R.most (length t)) refl e
    where
      go : (b : Bool) → length_fits R.most (length t) ≡ b → unless b R.refusals.length (lowest (refusal_at R t) (count t)) ≡ some x
          → IsLowest (refusal_at R t) (count t) x i × (count t ≤ R.most)
      go true f d =
          let (j, l) = lowest_of (refusal_at R t) (count t) x d in
          let z : j ≡ i = one_node x j i (at_placed t j l.refused) p in
          (subst (IsLowest (refusal_at R t) (count t) x) z l, (sized R t f).low)
      go false f d = let z : ◌≡◌ {A = Maybe ℕ} None (Some i) = sym P.length ∙ ap place (some-injective _ _ d) ∙ p in cc
