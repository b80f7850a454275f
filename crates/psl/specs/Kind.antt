-- The kinds of a PSL node, and their numbers.
use Rattle.std.specs.Prelude.{ℕ, Result}
use Rattle.table.specs.declared.kind.NoKind.{NoKind}
use Rattle.psl.specs.declared.kind.Kind.{Kind}
use Rattle.psl.specs.declared.kind.Kind.TheVariants.{True, Var, Bnot, Band, Weak, Strong, Not, And, Next, Until, Abort}
use Rattle.table.specs.Kind.{KindIs as IsKind}
use Rattle.psl.specs.Check.{psl_rules}

abbrev pub number : Kind → ℕ
number True = 0
number Var = 1
number Bnot = 2
number Band = 3
number Weak = 4
number Strong = 5
number Not = 6
number And = 7
number Next = 8
number Until = 9
number Abort = 10

-- The kind that a number stands for, or that it is no kind.
abbrev pub KindIs : ℕ → Result Kind NoKind → Type 0
KindIs n r = IsKind psl_rules number n r
