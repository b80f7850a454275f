-- Which nodes each keyword has: those of nodes none besides their own, the short forms theirs.
use mathlib.Core.Path.{◌≡◌, refl, subst}
use mathlib.Core.Bool.{Bool, true, false}
use mathlib.Core.List.{List, [], ◌∷◌}
use Prim.Native.Nat.{ℕ, ◌-◌, ◌<◌}
use native.Mathlib.Omega.{arith}
use borrow.Author.Tests.{lt-ltb, ne_eqb}
use lib.Dec.{ltb}
use Rattle.psl.specs.declared.kind.Kind.{Kind}
use Rattle.psl.specs.Kind.{number as kind_number}
use Rattle.formula_lines.specs.declared.keywords.Short.{Short}
use Rattle.table.specs.Node.{node}
use Rattle.formula_lines.specs.Inner.Kinds.{short_number, shape, arity, left_sort, right_sort}
use Rattle.formula_lines.specs.Inner.Writes.{Writes, Nodes, opens, negations, negated, not_without, over, both, between, one_nodes, two_nodes}
use Rattle.formula_lines.specs.Inner.Form.{Form, Sorted}
use Rattle.formula_lines.specs.Inner.Reader.{TwoStand}
use Rattle.formula_lines.proofs.WritesLaw.{writes-two}

-- ── Nodes ──

pub record Plain (k : ℕ) : Type 0 where
  pub opens : opens k ≡ false
  pub negations : negations k ≡ 0
  pub one : (x : Nodes) → one_nodes k x ≡ over k x
  pub two : (x y : Nodes) → two_nodes k x y ≡ both k x y

plain_low : (k : ℕ) → k < 11 → Plain k
unfolding opens negations one_nodes two_nodes
plain_low k h =
    let low : ltb k 11 ≡ true = lt-ltb k 11 h in
    record {
      opens = rw (ne_eqb k 15 (λ e. omega arith), ne_eqb k 16 (λ e. omega arith)) refl;
      negations = rw (ne_eqb k 11 (λ e. omega arith), ne_eqb k 18 (λ e. omega arith), ne_eqb k 12 (λ e. omega arith), ne_eqb k 13 (λ e. omega arith)) refl;
      one = λ x. rw low refl;
      two = λ x y. rw low refl;
    }

low : (k : Kind) → kind_number k < 11
low Kind.True = omega arith
low Kind.Var = omega arith
low Kind.Bnot = omega arith
low Kind.Band = omega arith
low Kind.Weak = omega arith
low Kind.Strong = omega arith
low Kind.Not = omega arith
low Kind.And = omega arith
low Kind.Next = omega arith
low Kind.Until = omega arith
low Kind.Abort = omega arith

pub plain : (k : Kind) → Plain (kind_number k)
plain k = plain_low (kind_number k) (low k)

pub two-node : {b : Bool} (k : Kind) (x y : Nodes) {n s m p : ℕ} {l l₁ l₂ l₃ : List ℕ} → Writes b (between (kind_number k) x n) n l s l₁ → Writes b (y s) s l₁ m l₂
    → Writes false (node (kind_number k) (s - 1) (m - 1) ∷ []) m l₂ p l₃ → Writes b (two_nodes (kind_number k) x y n) n l p l₃
two-node k x y v w u =
    let h = plain k in
    let v' = rw h.negations at v in
    rw h.two (writes-two (kind_number k) x y v' w u)

-- ── Short forms ──

-- Their operands are formulas.
formula_sorts : (s : Short) → arity (short_number s) ≡ 2 → (left_sort (short_number s) ≡ 1) × (right_sort (short_number s) ≡ 1)
unfolding shape
formula_sorts Short.Or e = (refl, refl)
formula_sorts Short.Implies e = (refl, refl)
formula_sorts Short.Iff e = (refl, refl)
formula_sorts Short.WeakNext e = absurd (omega (arith, e))
formula_sorts Short.Eventually e = absurd (omega (arith, e))
formula_sorts Short.Always e = absurd (omega (arith, e))
formula_sorts Short.WeakUntil e = (refl, refl)
formula_sorts Short.Before e = (refl, refl)

pub formulas : (k : Short) {b : Bool} {f g : Form} {s : List ℕ} {at then : ℕ} → TwoStand (short_number k) b f g s at then → Sorted 1 f × Sorted 1 g
formulas k {f = f} {g} T =
    let (i, j) = formula_sorts k T.two in
    (subst (λ (so : ℕ). Sorted so f) i T.sorted.0, subst (λ (so : ℕ). Sorted so g) j T.sorted.1)

pub weak_next : (s : Short) (x : Nodes) → (s ≡ Short.Eventually → ⊥) → (s ≡ Short.Always → ⊥) → (opens (short_number s) ≡ false) × (one_nodes (short_number s) x ≡ negated (over 8 (negated x)))
unfolding opens one_nodes
weak_next Short.Or x e a = (refl, refl)
weak_next Short.Implies x e a = (refl, refl)
weak_next Short.Iff x e a = (refl, refl)
weak_next Short.WeakNext x e a = (refl, refl)
weak_next Short.Eventually x e a = absurd (e refl)
weak_next Short.Always x e a = absurd (a refl)
weak_next Short.WeakUntil x e a = (refl, refl)
weak_next Short.Before x e a = (refl, refl)

pub either : (s : Short) (x y : Nodes) → (s ≡ Short.Iff → ⊥) → (s ≡ Short.WeakUntil → ⊥) → (s ≡ Short.Before → ⊥)
    → two_nodes (short_number s) x y ≡ not_without (between (short_number s) x) y
unfolding negations two_nodes
either Short.Or x y i w b = refl
either Short.Implies x y i w b = refl
either Short.Iff x y i w b = absurd (i refl)
either Short.WeakNext x y i w b = refl
either Short.Eventually x y i w b = refl
either Short.Always x y i w b = refl
either Short.WeakUntil x y i w b = absurd (w refl)
either Short.Before x y i w b = absurd (b refl)
