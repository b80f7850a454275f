-- What was read at the last node of a list that passed the tests of nodes, and what that node is made of.
use Prim.Native.Nat.{ℕ, ◌+◌, ◌*◌, ◌-◌, ◌<◌}
use mathlib.Core.Path.{◌≡◌, sym, ap, ◌∙◌}
use mathlib.Core.Bool.{true, false}
use mathlib.Core.Option.{none}
use mathlib.Core.List.{List}
use native.Mathlib.Omega.{arith}
use borrow.Author.Tests.{ltb-true, ltb-false}
use lib.ListN.{length, take}
use Rattle.std.proofs.lemmas.List.{length-take-le}
use Rattle.logic.specs.Letter.{signals}
use Rattle.logic.specs.Formula.{BoolExpr, btrue, var, bnot, band, Formula, weak, strong, fnot, fand, next, until, abort}
use Rattle.table.specs.Node.{count, kind_at, left_at, right_at}
use Rattle.table.specs.declared.Node.{Node as TypedNode}
use Rattle.table.specs.Rules.{boolean, formula}
use Rattle.table.specs.Check.{is_boolean, table_refusal}
use Rattle.table.proofs.CheckLaw.{Fits, sort_is, table-sized, left-fits, right_fits}
use Rattle.psl.specs.Kind.{number}
use Rattle.psl.specs.Table.{as_boolean, as_formula, boolean_of, formula_of}
use Rattle.psl.specs.Check.{psl_rules}
use Rattle.psl.specs.Inner.Parts.{boolean_at, formula_at}
use Rattle.psl.specs.Inner.Sort.{IsBooleanAt, IsFormulaAt}
use Rattle.psl.specs.Nodes.{FrontTo, Left, Right}
use Rattle.psl.specs.declared.kind.Kind.{Kind}
use Rattle.psl.specs.declared.kind.Kind.TheVariants.{True, Var, Bnot, Band, Weak, Strong, Not, And, Next, Until, Abort}
use Rattle.psl.proofs.PartLaw.{part-root, part-root_boolean, part-true, part-var, part-bnot, part-band, part_weak, part_strong, part-not, part-and, part-next, part-until, part-abort}

module _ (t : List ℕ) (u : table_refusal psl_rules t ≡ none) (x : TypedNode Kind) where
  abbrev i : ℕ
  i = count t - 1

  -- List v is the front of t up to node j, whose Boolean or formula is b.
  abbrev pub BooleanFront : ℕ → List ℕ → BoolExpr → Type 0
  BooleanFront j v b = (v ≡ take (3 * j + 3) t) × (b ≡ boolean_at t j)

  abbrev pub FormulaFront : ℕ → List ℕ → Formula → Type 0
  FormulaFront j v f = (v ≡ take (3 * j + 3) t) × (f ≡ formula_at t j)

  module _ (e : (number x.kind ≡ kind_at t i) × (x.left ≡ left_at t i) × (x.right ≡ right_at t i)) where
    inside : i < count t
    inside = omega (arith, (table-sized psl_rules t u).some)

    kind : {k : Kind} → x.kind ≡ k → kind_at t i ≡ number k
    kind k = sym e.0 ∙ ap number k

    -- An operand of the one sort or the other, and its front.
    of_boolean : (n : ℕ) → Fits psl_rules boolean n i (is_boolean psl_rules t n) → (n < i) × IsBooleanAt t n
    of_boolean n f = (f.low, (omega (arith, f.low), ltb-true (kind_at t n) 4 (sort_is true (is_boolean psl_rules t n) f.sort)))

    of_formula : (n : ℕ) → Fits psl_rules formula n i (is_boolean psl_rules t n) → (n < i) × IsFormulaAt t n
    of_formula n f = (f.low, (omega (arith, f.low), ltb-false (kind_at t n) 4 (sort_is false (is_boolean psl_rules t n) f.sort)))

    front-to : {l j : ℕ} → l ≡ j → j < i → {v : List ℕ} → v ≡ take (3 * l + 3) t → FrontTo t j v
    front-to {l} d h s = record { is = s ∙ ap (λ (n : ℕ). take (3 * n + 3) t) d; shorter = omega (arith, ap length s, length-take-le (3 * l + 3) t (omega arith)) }

    pub of-true : x.kind ≡ True → boolean_of t ≡ btrue
    of-true k = part-root_boolean t ∙ ap as_boolean (part-true t u i inside (kind k))

    pub of-var : x.kind ≡ Var → (x.left < signals) × (boolean_of t ≡ var x.left)
    of-var k = rw e.1 ((left-fits psl_rules t u i inside 1 (kind k)).low, part-root_boolean t ∙ ap as_boolean (part-var t u i inside (kind k)))

    pub of-bnot : x.kind ≡ Bnot → IsBooleanAt t x.left × ((v : List ℕ) (b : BoolExpr) → BooleanFront x.left v b → Left t v × (boolean_of t ≡ bnot b))
    of-bnot k =
        let f = of_boolean (left_at t i) (left-fits psl_rules t u i inside 2 (kind k)) in
        (rw e.1 f.1, λ v b s. (front-to e.1 f.0 s.0, rw (s.1, e.1) (part-root_boolean t ∙ ap as_boolean (part-bnot t u i inside (kind k)))))

    pub of-band : x.kind ≡ Band → IsBooleanAt t x.left × IsBooleanAt t x.right
        × ((v w : List ℕ) (b : BoolExpr) (c : BoolExpr) → BooleanFront x.left v b → BooleanFront x.right w c → Left t v × Right t w × (boolean_of t ≡ band b c))
    of-band k =
        let f = of_boolean (left_at t i) (left-fits psl_rules t u i inside 3 (kind k)) in
        let g = of_boolean (right_at t i) (right_fits psl_rules t u i inside 3 (kind k)) in
        (rw e.1 f.1, rw e.2 g.1, λ v w b c s q. (front-to e.1 f.0 s.0, front-to e.2 g.0 q.0, rw (s.1, q.1, e.1, e.2) (part-root_boolean t ∙ ap as_boolean (part-band t u i inside (kind k)))))

    pub of-weak : x.kind ≡ Weak → IsBooleanAt t x.left × ((v : List ℕ) (b : BoolExpr) → BooleanFront x.left v b → Left t v × (formula_of t ≡ weak b))
    of-weak k =
        let f = of_boolean (left_at t i) (left-fits psl_rules t u i inside 4 (kind k)) in
        (rw e.1 f.1, λ v b s. (front-to e.1 f.0 s.0, rw (s.1, e.1) (part-root t ∙ ap as_formula (part_weak t u i inside (kind k)))))

    pub of-strong : x.kind ≡ Strong → IsBooleanAt t x.left × ((v : List ℕ) (b : BoolExpr) → BooleanFront x.left v b → Left t v × (formula_of t ≡ strong b))
    of-strong k =
        let f = of_boolean (left_at t i) (left-fits psl_rules t u i inside 5 (kind k)) in
        (rw e.1 f.1, λ v b s. (front-to e.1 f.0 s.0, rw (s.1, e.1) (part-root t ∙ ap as_formula (part_strong t u i inside (kind k)))))

    pub of-not : x.kind ≡ Not → IsFormulaAt t x.left × ((v : List ℕ) (b : Formula) → FormulaFront x.left v b → Left t v × (formula_of t ≡ fnot b))
    of-not k =
        let f = of_formula (left_at t i) (left-fits psl_rules t u i inside 6 (kind k)) in
        (rw e.1 f.1, λ v b s. (front-to e.1 f.0 s.0, rw (s.1, e.1) (part-root t ∙ ap as_formula (part-not t u i inside (kind k)))))

    pub of-and : x.kind ≡ And → IsFormulaAt t x.left × IsFormulaAt t x.right
        × ((v w : List ℕ) (b : Formula) (c : Formula) → FormulaFront x.left v b → FormulaFront x.right w c → Left t v × Right t w × (formula_of t ≡ fand b c))
    of-and k =
        let f = of_formula (left_at t i) (left-fits psl_rules t u i inside 7 (kind k)) in
        let g = of_formula (right_at t i) (right_fits psl_rules t u i inside 7 (kind k)) in
        (rw e.1 f.1, rw e.2 g.1, λ v w b c s q. (front-to e.1 f.0 s.0, front-to e.2 g.0 q.0, rw (s.1, q.1, e.1, e.2) (part-root t ∙ ap as_formula (part-and t u i inside (kind k)))))

    pub of-next : x.kind ≡ Next → IsFormulaAt t x.left × ((v : List ℕ) (b : Formula) → FormulaFront x.left v b → Left t v × (formula_of t ≡ next b))
    of-next k =
        let f = of_formula (left_at t i) (left-fits psl_rules t u i inside 8 (kind k)) in
        (rw e.1 f.1, λ v b s. (front-to e.1 f.0 s.0, rw (s.1, e.1) (part-root t ∙ ap as_formula (part-next t u i inside (kind k)))))

    pub of-until : x.kind ≡ Until → IsFormulaAt t x.left × IsFormulaAt t x.right
        × ((v w : List ℕ) (b : Formula) (c : Formula) → FormulaFront x.left v b → FormulaFront x.right w c → Left t v × Right t w × (formula_of t ≡ until b c))
    of-until k =
        let f = of_formula (left_at t i) (left-fits psl_rules t u i inside 9 (kind k)) in
        let g = of_formula (right_at t i) (right_fits psl_rules t u i inside 9 (kind k)) in
        (rw e.1 f.1, rw e.2 g.1, λ v w b c s q. (front-to e.1 f.0 s.0, front-to e.2 g.0 q.0, rw (s.1, q.1, e.1, e.2) (part-root t ∙ ap as_formula (part-until t u i inside (kind k)))))

    pub of-abort : x.kind ≡ Abort → IsFormulaAt t x.left × IsBooleanAt t x.right
        × ((v w : List ℕ) (b : Formula) (c : BoolExpr) → FormulaFront x.left v b → BooleanFront x.right w c → Left t v × Right t w × (formula_of t ≡ abort b c))
    of-abort k =
        let f = of_formula (left_at t i) (left-fits psl_rules t u i inside 10 (kind k)) in
        let g = of_boolean (right_at t i) (right_fits psl_rules t u i inside 10 (kind k)) in
        (rw e.1 f.1, rw e.2 g.1, λ v w b c s q. (front-to e.1 f.0 s.0, front-to e.2 g.0 q.0, rw (s.1, q.1, e.1, e.2) (part-root t ∙ ap as_formula (part-abort t u i inside (kind k)))))
