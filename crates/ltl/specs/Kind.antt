-- The kinds of an LTL node, and their numbers.
use Rattle.std.specs.Prelude.{ℕ, Result}
use Rattle.table.specs.declared.kind.NoKind.{NoKind}
use Rattle.ltl.specs.declared.kind.Kind.{Kind}
use Rattle.ltl.specs.declared.kind.Kind.TheVariants.{True, Var, Not, And, Or, Next, Until}
use Rattle.table.specs.Kind.{KindIs as IsKind}
use Rattle.ltl.specs.Check.{ltl_rules}

abbrev pub number : Kind → ℕ
number True = 0
number Var = 1
number Not = 2
number And = 3
number Or = 4
number Next = 5
number Until = 6

-- The kind that a number stands for, or that it is no kind.
abbrev pub KindIs : ℕ → Result Kind NoKind → Type 0
KindIs n r = IsKind ltl_rules number n r
