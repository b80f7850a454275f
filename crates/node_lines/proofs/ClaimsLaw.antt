-- The statements of `Claims`.
use mathlib.Core.Path.{◌≡◌, refl, sym, ap, ◌∙◌}
use mathlib.Core.Bool.{Bool, true, false}
use mathlib.Core.Option.{some, some-injective}
use Prim.Native.Nat.{ℕ, ◌<◌}
use borrow.Author.Tests.{ltb-true}
use lib.Dec.{ltb}
use Rattle.std.specs.Prelude.{Option as Maybe, None, Some}
use Rattle.trace.specs.declared.refusal.Refusal.{Refusal}
use Rattle.trace.specs.Refusal.{place, unless}
use Rattle.table.specs.Node.{Node}
use Rattle.table.specs.Check.{node_refusal}
use Rattle.table.proofs.NamedLaw.{node_placed, one_node}
use Rattle.ltl.specs.Check.{ltl_rules}
use Rattle.ltl.proofs.ClaimsLaw.{placing}
use Rattle.node_lines.specs.Claims.{Claims}
use Rattle.node_lines.specs.NodeAnswer.{node_fault}
use Rattle.node_lines.proofs.NodeLaw.{node_injective}

own : (i j : ℕ) (n : Node) (x : Refusal) → node_fault i n ≡ some x → place x ≡ Some j → (i ≡ j) × (i < ltl_rules.most)
own i j n x e p = go (ltb i ltl_rules.most) refl e
  where
    go : (b : Bool) → ltb i ltl_rules.most ≡ b → unless b ltl_rules.refusals.length (node_refusal ltl_rules i n false false) ≡ some x → (i ≡ j) × (i < ltl_rules.most)
    go true f d = (one_node x i j (node_placed ltl_rules placing x i n false false d) p, ltb-true i ltl_rules.most f)
    go false f d = let z : ◌≡◌ {A = Maybe ℕ} None (Some j) = ap place (some-injective _ _ d) ∙ p in cc

pub claims : Claims
claims = record { one_node = node_injective; own = own; one_node_answer = λ i n l r r' m m' (p, q) (p', q'). let e = p ∙ sym p' in (e, cc) }
