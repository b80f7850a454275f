-- Which node a refusal of the PSL check carries.
use mathlib.Core.Path.{◌≡◌, refl, ◌∙◌, subst}
use mathlib.Core.Option.{Option, none, some, some-injective}
use mathlib.Core.List.{List}
use Prim.Native.Nat.{ℕ, ◌-◌, ◌<◌, ◌≤◌}
use native.Mathlib.Omega.{arith}
use Rattle.std.specs.Prelude.{Some}
use Rattle.trace.specs.declared.refusal.Refusal.{Refusal}
use Rattle.trace.specs.declared.refusal.Refusal.TheVariants.{PslUse, PslRoot}
use Rattle.trace.specs.Refusal.{place, or_else, lowest, IsLowest}
use Rattle.trace.proofs.ReasonLaw.{of_none, of_unless, lowest_of}
use Rattle.table.specs.Node.{count}
use Rattle.table.specs.Rules.{Sorts}
use Rattle.table.specs.Check.{table_refusal}
use Rattle.table.proofs.CheckLaw.{table-sized}
use Rattle.table.proofs.NamedLaw.{Placing, At, one_node, table_placed}
use Rattle.psl.specs.Check.{psl_rules, use_refusal, root_refusal, tree_refusal, psl_refusal}
use Rattle.psl.specs.Carries.{Carries, by_node, by_use, by_root}

placing : Placing psl_rules
placing =
    record {
      length = refl;
      kind = λ i. refl;
      unused = λ i. refl;
      signal = λ i. refl;
      operand = λ i. refl;
      sort = λ s e i. subst (λ (z : Sorts). place (z.refusal i) ≡ Some i) (some-injective _ _ e) refl;
    }

module _ (t : List ℕ) (x : Refusal) (i : ℕ) (p : place x ≡ Some i) where
  -- 7 and 8.
  use_at : (j : ℕ) → use_refusal t j ≡ some x → At j x
  unfolding use_refusal
  use_at j e = of_unless (At j) x _ (PslUse j) none refl (of_none (At j) x) e

  root_at : root_refusal t ≡ some x → At (count t - 1) x
  unfolding root_refusal
  root_at e = let j = count t - 1 in of_unless (At j) x _ (PslRoot j) none refl (of_none (At j) x) e

  tree_placed : table_refusal psl_rules t ≡ none → tree_refusal t ≡ some x → Carries t x i
  unfolding tree_refusal
  tree_placed n e = go (lowest (use_refusal t) (count t - 1)) (lowest_of (use_refusal t) (count t - 1) x) e
    where
      go : (o : Option Refusal) → (o ≡ some x → (j : ℕ) × IsLowest (use_refusal t) (count t - 1) x j) → or_else o (root_refusal t) ≡ some x → Carries t x i
      go none f d = by_root d (omega (arith, one_node x (count t - 1) i (root_at d) p, (table-sized psl_rules t n).some))
      go (some y) f d = let (j, l) = f d in by_use (subst (IsLowest (use_refusal t) (count t - 1) x) (one_node x j i (use_at j l.refused) p) l)

  pub psl_placed : psl_refusal t ≡ some x → Carries t x i × (count t ≤ psl_rules.most)
  unfolding psl_refusal
  psl_placed e = go (table_refusal psl_rules t) refl e
    where
      go : (o : Option Refusal) → table_refusal psl_rules t ≡ o → or_else o (tree_refusal t) ≡ some x → Carries t x i × (count t ≤ psl_rules.most)
      go none n d = (tree_placed n d, (table-sized psl_rules t n).low)
      go (some y) n d = let (l, few) = table_placed psl_rules placing x t (n ∙ d) i p in (by_node l, few)

pub carried_inside : {t : List ℕ} {x : Refusal} {i : ℕ} → Carries t x i → i < count t
carried_inside (by_node l) = l.inside
carried_inside (by_use l) = omega (arith, l.inside)
carried_inside (by_root e h) = omega (arith, h)
