-- `check_uses` answers for the nodes but the last, then for the last.
use mathlib.Core.Path.{◌≡◌, sym, ap, ◌∙◌}
use mathlib.Core.Option.{none}
use Prim.Native.Nat.{ℕ, ◌-◌, ◌<◌, ◌≤◌}
use native.Mathlib.Omega.{arith}
use borrow.Author.Tests.{lt-ltb, le-ltb}
use lib.ListN.{length, take}
use Rattle.std.proofs.Common.{rules, tests, List, MatchOption, None, Err}
use Rattle.std.proofs.lemmas.Iterator.{IsFirst-from_position, YieldsList-from_slice}
use Rattle.std.proofs.lemmas.List.{get_or-take, length-take-le}
use Rattle.std.specs.List.{AllWithin, HoldsAt}
use Rattle.trace.specs.declared.refusal.Refusal.TheVariants.{PslUse, PslRoot}
use Rattle.trace.specs.Refusal.{lowest}
use Rattle.table.specs.Node.{count}
use Rattle.table.specs.Answer.{checked}
use Rattle.table.proofs.CheckLaw.{Sized, sized, none-refused}
use Rattle.psl.specs.Check.{psl_rules, use_refusal}
use Rattle.psl.proofs.CheckLaw.{used_once, misused, uses-refused, root-refused, root_fine}
use Rattle.psl.proofs.check_uses.Goals as goal
use Rattle.psl.proofs.check_uses.Goals.{After-position}

size : (a : After-position) → Sized psl_rules a.args.t.now
size a = sized psl_rules _ a.requires.right_length

-- All nodes but the last.
abbrev n : After-position → ℕ
n a = count a.args.t.now - 1

abbrev front : After-position → List ℕ
front a = take (n a) a.args.c.now

front_length : (a : After-position) → length (front a) ≡ n a
front_length a = length-take-le (n a) a.args.c.now (omega (arith, a.requires.for_nodes, (size a).some))

-- What the search of the counts says.
found : (a : After-position) → MatchOption a.position.result (AllWithin (λ x. x ≡ 1) (front a) 0 (length (front a)))
    (λ j. (j < length (front a)) × HoldsAt (λ x. x ≡ 1 → ⊥) (front a) j × AllWithin (λ x. x ≡ 1) (front a) 0 j)
found a =
    IsFirst-from_position _ _ _ (λ x. x ≡ 1 → ⊥) (λ x. x ≡ 1) a.position.ensures.ran (YieldsList-from_slice (front a) (search rules)) (λ x q k. search (rules, tests)) (λ x q k. search (rules, tests))

-- The nodes below j are operands once.
once : (a : After-position) (j : ℕ) → j ≤ n a → AllWithin (λ x. x ≡ 1) (front a) 0 j → lowest (use_refusal a.args.t.now) j ≡ none
once a j l each =
    none-refused (use_refusal a.args.t.now) j (λ k h. used_once a.requires k (omega (arith, (size a).some)) (sym (get_or-take (n a) a.args.c.now k 0 (omega arith)) ∙ each k 0 (omega arith) (omega arith)))

-- None is misused.
all_once : (a : After-position) → a.position.result ≡ None → lowest (use_refusal a.args.t.now) (n a) ≡ none
all_once a e = let each = rw e at (found a) in once a (n a) (omega arith) (λ k x l h. each k x (omega arith) (omega (arith, front_length a)))

pub returns-in-Some : goal.returns-in-Some
returns-in-Some c =
    let a = (goal.at.returns-in-Some c).After-position in
    let j = c.in-Some.j in
    let (h, misuse, before) = rw c.in-Some.is at (found a) in
    let l : j < n a = omega (arith, front_length a) in
    let e : c.from_index-node.result.0 ≡ j = omega (arith, c.from_index-node.ensures, (size a).low) in
    ap (λ (k : ℕ). Err (PslUse k)) e
    ∙ sym (ap checked (uses-refused a.args.t.now j l (once a j (omega arith) before)
    (misused a.requires j (omega (arith, (size a).some)) (λ d. misuse 0 (get_or-take (n a) a.args.c.now j 0 l ∙ d)))))

pub returns-then-t-last-lt-BOOLEANS : goal.returns-then-t-last-lt-BOOLEANS
returns-then-t-last-lt-BOOLEANS c =
    let a = (goal.at.returns-then-t-last-lt-BOOLEANS c).After-position in
    let e : c.from_index-node-then-t-last-lt-BOOLEANS.result.0 ≡ n a = omega (arith, c.from_index-node-then-t-last-lt-BOOLEANS.ensures, (size a).low) in
    ap (λ (k : ℕ). Err (PslRoot k)) e ∙ sym (ap checked (root-refused a.args.t.now (all_once a c.in_default.is) (lt-ltb _ 4 c.if-t-last-lt-BOOLEANS.true)))

pub returns : goal.returns
returns c =
    let a = (goal.at.returns c).After-position in
    sym (ap checked (root_fine a.args.t.now (all_once a c.in_default.is) (le-ltb _ 4 c.if-t-last-lt-BOOLEANS.false)))
