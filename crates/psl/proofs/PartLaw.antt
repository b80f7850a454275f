-- What a node of a table stands for that the first PSL tests do not refuse: by its kind and its operands, and of its sort.
use Prim.Native.Nat.{ℕ, ◌-◌, ◌<◌}
use mathlib.Core.Path.{◌≡◌, refl, sym, ap, subst, ◌∙◌}
use mathlib.Core.Bool.{Bool, true, false}
use mathlib.Core.List.{List}
use mathlib.Core.Option.{none}
use native.Mathlib.Omega.{arith}
use Rattle.table.specs.Node.{node, count, kind_at, left_at, right_at, node_at}
use Rattle.table.specs.Rules.{Use, unused, signal, operand, shape_of, boolean_kind}
use Rattle.table.specs.Check.{is_boolean, table_refusal}
use Rattle.table.proofs.CheckLaw.{Fits, sort_is, kind_in, left-fits, right_fits}
use Rattle.table.proofs.KindLaw.{◌⨾◌, each}
use Rattle.table.proofs.ValueLaw.{Same, Local, root_value, value_of}
use Rattle.logic.specs.Formula.{btrue, var, bnot, band, weak, strong, fnot, fand, next, until, abort}
use Rattle.psl.specs.Table.{Part, boolean, formula, as_boolean, as_formula, part_of, boolean_of, formula_of}
use Rattle.psl.specs.Check.{psl_rules}
use Rattle.psl.specs.Inner.Parts.{part_at, boolean_at, formula_at}

-- ── By its operands ──

part_local : Local psl_rules part_of
unfolding part_of
part_local x y l r =
    each (λ k. Same (shape_of psl_rules k).0 x y l → Same (shape_of psl_rules k).1 x y r → part_of x (node k l r) ≡ part_of y (node k l r)) 11
    ((λ p q. refl)
    ⨾ (λ p q. refl)
    ⨾ (λ p q. rw (p refl))
    ⨾ (λ p q. rw (p refl, q refl))
    ⨾ (λ p q. rw (p refl))
    ⨾ (λ p q. rw (p refl))
    ⨾ (λ p q. rw (p refl))
    ⨾ (λ p q. rw (p refl, q refl))
    ⨾ (λ p q. rw (p refl))
    ⨾ (λ p q. rw (p refl, q refl))
    ⨾ (λ p q. rw (p refl, q refl))
    ⨾ tt)

-- ── Of its sort ──

-- A part is a Boolean if b, else a formula.
abbrev pub Sorted : Bool → Part → Type 0
Sorted true x = x ≡ boolean (as_boolean x)
Sorted false x = x ≡ formula (as_formula x)

-- An operand is of its place's sort.
abbrev pub OfSort : Use → Part → Type 0
OfSort unused x = Unit {0}
OfSort signal x = Unit {0}
OfSort (operand b) x = Sorted b x

kind_sort : (x : ℕ → Part) (l r k : ℕ) → k < 11 → Sorted (boolean_kind psl_rules.sorts k) (part_of x (node k l r))
unfolding part_of
kind_sort x l r =
    each (λ k. Sorted (boolean_kind psl_rules.sorts k) (part_of x (node k l r))) 11
    (refl ⨾ refl ⨾ refl ⨾ refl ⨾ refl ⨾ refl ⨾ refl ⨾ refl ⨾ refl ⨾ refl ⨾ refl ⨾ tt)

pub part-root : (t : List ℕ) → formula_of t ≡ formula_at t (count t - 1)
unfolding formula_of part_at
part-root t = ap as_formula (root_value (boolean btrue) part_of t)

pub part-root_boolean : (t : List ℕ) → boolean_of t ≡ boolean_at t (count t - 1)
unfolding boolean_of part_at
part-root_boolean t = ap as_boolean (root_value (boolean btrue) part_of t)

module _ (t : List ℕ) (e : table_refusal psl_rules t ≡ none) where
  pub part-node : (i : ℕ) → i < count t → part_at t i ≡ part_of (part_at t) (node_at t i)
  unfolding part_at
  part-node i h = value_of (boolean btrue) part_of t psl_rules part_local e i h

  pub part_sort : (i : ℕ) → i < count t → Sorted (is_boolean psl_rules t i) (part_at t i)
  part_sort i h =
      subst (Sorted (is_boolean psl_rules t i)) (sym (part-node i h))
      (kind_sort (part_at t) (left_at t i) (right_at t i) (kind_at t i) (kind_in psl_rules t e i h))

  operand_sort : (u : Use) (n i : ℕ) → i < count t → Fits psl_rules u n i (is_boolean psl_rules t n) → OfSort u (part_at t n)
  operand_sort unused n i h f = tt
  operand_sort signal n i h f = tt
  operand_sort (operand b) n i h f = subst (λ (s : Bool). Sorted s (part_at t n)) (sort_is b (is_boolean psl_rules t n) f.sort) (part_sort n (omega (arith, f.low)))

  -- ── Kind by kind ──

  module _ (i : ℕ) (h : i < count t) where
    pub left-part : (k : ℕ) → kind_at t i ≡ k → OfSort (shape_of psl_rules k).0 (part_at t (left_at t i))
    left-part k q = operand_sort (shape_of psl_rules k).0 (left_at t i) i h (left-fits psl_rules t e i h k q)

    pub right_part : (k : ℕ) → kind_at t i ≡ k → OfSort (shape_of psl_rules k).1 (part_at t (right_at t i))
    right_part k q = operand_sort (shape_of psl_rules k).1 (right_at t i) i h (right_fits psl_rules t e i h k q)

    part-kind : (k : ℕ) → kind_at t i ≡ k → part_at t i ≡ part_of (part_at t) (node k (left_at t i) (right_at t i))
    part-kind k q = part-node i h ∙ ap (λ (m : ℕ). part_of (part_at t) (node m (left_at t i) (right_at t i))) q

    pub part-true : kind_at t i ≡ 0 → part_at t i ≡ boolean btrue
    unfolding part_of
    part-true q = part-kind 0 q

    pub part-var : kind_at t i ≡ 1 → part_at t i ≡ boolean (var (left_at t i))
    unfolding part_of
    part-var q = part-kind 1 q

    pub part-bnot : kind_at t i ≡ 2 → part_at t i ≡ boolean (bnot (boolean_at t (left_at t i)))
    unfolding part_of
    part-bnot q = part-kind 2 q

    pub part-band : kind_at t i ≡ 3 → part_at t i ≡ boolean (band (boolean_at t (left_at t i)) (boolean_at t (right_at t i)))
    unfolding part_of
    part-band q = part-kind 3 q

    pub part_weak : kind_at t i ≡ 4 → part_at t i ≡ formula (weak (boolean_at t (left_at t i)))
    unfolding part_of
    part_weak q = part-kind 4 q

    pub part_strong : kind_at t i ≡ 5 → part_at t i ≡ formula (strong (boolean_at t (left_at t i)))
    unfolding part_of
    part_strong q = part-kind 5 q

    pub part-not : kind_at t i ≡ 6 → part_at t i ≡ formula (fnot (formula_at t (left_at t i)))
    unfolding part_of
    part-not q = part-kind 6 q

    pub part-and : kind_at t i ≡ 7 → part_at t i ≡ formula (fand (formula_at t (left_at t i)) (formula_at t (right_at t i)))
    unfolding part_of
    part-and q = part-kind 7 q

    pub part-next : kind_at t i ≡ 8 → part_at t i ≡ formula (next (formula_at t (left_at t i)))
    unfolding part_of
    part-next q = part-kind 8 q

    pub part-until : kind_at t i ≡ 9 → part_at t i ≡ formula (until (formula_at t (left_at t i)) (formula_at t (right_at t i)))
    unfolding part_of
    part-until q = part-kind 9 q

    pub part-abort : kind_at t i ≡ 10 → part_at t i ≡ formula (abort (formula_at t (left_at t i)) (boolean_at t (right_at t i)))
    unfolding part_of
    part-abort q = part-kind 10 q
