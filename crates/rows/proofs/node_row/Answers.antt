-- Kind by kind, each by its law or its function's contract.
use Rattle.std.proofs.Common.{◌≡◌, sym, refl, subst, inl, inr}
use Rattle.ltl.specs.declared.kind.Kind.{Kind}
use Rattle.ltl.specs.Kind.{number}
use Rattle.ltl.specs.Table.{tree_of_node}
use Rattle.ltl.specs.Check.{LeftOperand, RightOperand}
use Rattle.rows.proofs.RowLaw.{tells-true, tells-not, tells-and, tells-or}
use Rattle.rows.proofs.node_row.Goals as goal

left : {k k' : Kind} → k ≡ k' → LeftOperand (number k') → LeftOperand (number k)
left e = subst (λ (k : Kind). LeftOperand (number k)) (sym e)

right : {k k' : Kind} → k ≡ k' → RightOperand (number k') → RightOperand (number k)
right e = subst (λ (k : Kind). RightOperand (number k)) (sym e)

pub returns-in-True : goal.returns-in-True
unfolding tree_of_node
returns-in-True c t l p few n x r A B = elim c.in-True.is [ inl e ↦ rw e (tells-true few) | inr e ↦ absurd (n e) ]

pub returns-in-Not : goal.returns-in-Not
unfolding tree_of_node
returns-in-Not c t l p few n x r A B = let e = c.in-Not.is in rw e (tells-not few c.ranges.a.fits (A (left e refl)))

pub returns-in-And : goal.returns-in-And
unfolding tree_of_node
returns-in-And c t l p few n x r A B = let e = c.in-And.is in rw e (tells-and few (A (left e refl)) (B (right e refl)))

pub returns-in-Or : goal.returns-in-Or
unfolding tree_of_node
returns-in-Or c t l p few n x r A B = let e = c.in-Or.is in rw e (tells-or few (A (left e refl)) (B (right e refl)))

pub returns-in-Next : goal.returns-in-Next
unfolding tree_of_node
returns-in-Next c t l p few n x r A B = let e = c.in-Next.is in rw e (c.next_row.ensures t (x l) p (λ _. A (left e refl)) few)

pub returns-in-Until : goal.returns-in-Until
unfolding tree_of_node
returns-in-Until c t l p few n x r A B = let e = c.in-Until.is in
    rw e (c.until_row.ensures t (x l) (x r) p (λ _. A (left e refl)) (λ _. B (right e refl)) few)
