-- A written formula's nodes, as the reader writes them, are the closing table of what it is spelled out to.
use mathlib.Core.Path.{◌≡◌, refl}
use mathlib.Core.Bool.{Bool, true, false, ◌||◌}
use mathlib.Core.List.{List, [], ◌++◌, append_assoc}
use Prim.Native.Nat.{ℕ}
use lib.ListN.{length, length-append}
use Rattle.table.specs.Node.{Node, node, ◌▸◌, last}
use Rattle.logic.specs.Formula.{BoolExpr, btrue, var, bnot, band, Formula, strong, fnot, fand, next, until}
use Rattle.logic.specs.Written.{Written, Weak, Strong, Not, And, Next, Until, Abort, Or, Implies, Iff, WeakNext, Eventually, Always, WeakUntil, Before, or, eventually, always, spelled_out}
use Rattle.psl.specs.Closing.{nodes_b, nodes, closing_nodes, large_signal_b, large_signal}
use Rattle.formula_lines.specs.Inner.Writes.{Nodes, leaf, over, both, negated, not_without, strong_true, sometime, forever, negations, one_nodes, two_nodes}
use Rattle.formula_lines.specs.Inner.Form.{nodes_from, wide}
use Rattle.formula_lines.proofs.FormulaLaw.{bool_form, form}

-- ── One node more ──

grow-one : (k : ℕ) (x : Nodes) (ns : List Node) {ms : List Node} → ms ≡ ns ++ x (length ns) → ms ▸ node k (last ms) 0 ≡ ns ++ over k x (length ns)
unfolding over
grow-one k x ns e = rw (e, length-append ns (x (length ns))) (append_assoc ns (x (length ns)) _)

grow-two : (k : ℕ) (x y : Nodes) (ns : List Node) {ms ps : List Node} → ms ≡ ns ++ x (length ns) → ps ≡ ms ++ y (length ms)
    → ps ▸ node k (last ms) (last ps) ≡ ns ++ both k x y (length ns)
unfolding both
grow-two k x y ns {ms} e d = rw (d, length-append ms (y (length ms)), e, length-append ns (x (length ns))) (simp append_assoc)

-- ── The nodes of a form ──

bool_closes : (b : BoolExpr) (ns : List Node) → nodes_b b ns ≡ ns ++ nodes_from (bool_form b) (length ns)
unfolding nodes_b nodes_from one_nodes two_nodes
bool_closes btrue ns = refl
bool_closes (var k) ns = refl
bool_closes (bnot b) ns = grow-one 2 (nodes_from (bool_form b)) ns (bool_closes b ns)
bool_closes (band b c) ns = grow-two 3 (nodes_from (bool_form b)) (nodes_from (bool_form c)) ns (bool_closes b ns) (bool_closes c (nodes_b b ns))

-- The nodes of f, behind any that are there, are x.
record Closes (f : Formula) (x : Nodes) : Type 0 where
  is : (ns : List Node) → nodes f ns ≡ ns ++ x (length ns)

not_closes : {f : Formula} {x : Nodes} → Closes f x → Closes (fnot f) (negated x)
unfolding nodes
not_closes {f} {x} a = record { is = λ ns. grow-one 6 x ns (a.is ns) }

next_closes : {f : Formula} {x : Nodes} → Closes f x → Closes (next f) (over 8 x)
unfolding nodes
next_closes {f} {x} a = record { is = λ ns. grow-one 8 x ns (a.is ns) }

and_closes : {f g : Formula} {x y : Nodes} → Closes f x → Closes g y → Closes (fand f g) (both 7 x y)
unfolding nodes
and_closes {f} {g} {x} {y} a b = record { is = λ ns. grow-two 7 x y ns (a.is ns) (b.is (nodes f ns)) }

until_closes : {f g : Formula} {x y : Nodes} → Closes f x → Closes g y → Closes (until f g) (both 9 x y)
unfolding nodes
until_closes {f} {g} {x} {y} a b = record { is = λ ns. grow-two 9 x y ns (a.is ns) (b.is (nodes f ns)) }

or_closes : {f g : Formula} {x y : Nodes} → Closes f x → Closes g y → Closes (or f g) (not_without (negated x) y)
or_closes a b = not_closes (and_closes (not_closes a) (not_closes b))

true_closes : Closes (strong btrue) strong_true
unfolding nodes nodes_b
true_closes = record { is = λ ns. grow-one 5 (leaf 0 0) ns refl }

eventually_closes : {f : Formula} {x : Nodes} → Closes f x → Closes (eventually f) (sometime x)
eventually_closes = until_closes true_closes

always_closes : {f : Formula} {x : Nodes} → Closes f x → Closes (always f) (forever x)
always_closes a = not_closes (eventually_closes (not_closes a))

closes : (w : Written) → Closes (spelled_out w) (nodes_from (form w))
unfolding nodes spelled_out nodes_from negations one_nodes two_nodes
closes (Weak b) = record { is = λ ns. grow-one 4 (nodes_from (bool_form b)) ns (bool_closes b ns) }
closes (Strong b) = record { is = λ ns. grow-one 5 (nodes_from (bool_form b)) ns (bool_closes b ns) }
closes (Not f) = not_closes (closes f)
closes (And f g) = and_closes (closes f) (closes g)
closes (Next f) = next_closes (closes f)
closes (Until f g) = until_closes (closes f) (closes g)
closes (Abort f b) = record { is = λ ns. grow-two 10 (nodes_from (form f)) (nodes_from (bool_form b)) ns ((closes f).is ns) (bool_closes b (nodes (spelled_out f) ns)) }
closes (Or f g) = or_closes (closes f) (closes g)
closes (Implies f g) = or_closes (not_closes (closes f)) (closes g)
closes (Iff f g) = and_closes (or_closes (not_closes (closes f)) (closes g)) (or_closes (not_closes (closes g)) (closes f))
closes (WeakNext f) = not_closes (next_closes (not_closes (closes f)))
closes (Eventually f) = eventually_closes (closes f)
closes (Always f) = always_closes (closes f)
closes (WeakUntil f g) = or_closes (until_closes (closes f) (closes g)) (always_closes (closes f))
closes (Before f g) = not_closes (until_closes (not_closes (closes f)) (closes g))

pub written_closing : (w : Written) → closing_nodes (spelled_out w) ≡ nodes_from (form w) 0
written_closing w = (closes w).is []

-- ── Signals ──

wide_bool : (b : BoolExpr) → wide (bool_form b) ≡ large_signal_b b
unfolding wide large_signal_b
wide_bool btrue = refl
wide_bool (var k) = refl
wide_bool (bnot b) = wide_bool b
wide_bool (band b c) = rw (wide_bool b, wide_bool c)

-- An operand that stands twice is no wider.
twice : (a b : Bool) → a || b ≡ (a || b) || (b || a)
twice true b = refl
twice false true = refl
twice false false = refl

first_twice : (a b : Bool) → a || b ≡ (a || b) || a
first_twice true b = refl
first_twice false true = refl
first_twice false false = refl

pub wide_large : (w : Written) → wide (form w) ≡ large_signal (spelled_out w)
unfolding wide large_signal large_signal_b spelled_out
wide_large (Weak b) = wide_bool b
wide_large (Strong b) = wide_bool b
wide_large (Not f) = wide_large f
wide_large (And f g) = rw (wide_large f, wide_large g)
wide_large (Next f) = wide_large f
wide_large (Until f g) = rw (wide_large f, wide_large g)
wide_large (Abort f b) = rw (wide_large f, wide_bool b)
wide_large (Or f g) = rw (wide_large f, wide_large g)
wide_large (Implies f g) = rw (wide_large f, wide_large g)
wide_large (Iff f g) = rw (wide_large f, wide_large g) (twice (large_signal (spelled_out f)) (large_signal (spelled_out g)))
wide_large (WeakNext f) = wide_large f
wide_large (Eventually f) = wide_large f
wide_large (Always f) = wide_large f
wide_large (WeakUntil f g) = rw (wide_large f, wide_large g) (first_twice (large_signal (spelled_out f)) (large_signal (spelled_out g)))
wide_large (Before f g) = rw (wide_large f, wide_large g)
