-- `translate::emit` meets its contract: true, not 0, then the walk from the root.
use native.Mathlib.Omega.{arith}
use mathlib.Core.Path.{◌≡◌, ap, ◌∙◌}
use mathlib.Core.List.{List}
use Prim.Native.Nat.{ℕ}
use denote.Ref.{Bor}
use Rattle.psl.specs.Table.{formula_of}
use Rattle.translate.proofs.StoredLaw.{walks_on}
use Rattle.translate.proofs.DeliversLaw.{asked_root, emits}
use Rattle.translate.proofs.emit.Goals as goal

pub walk-requires : goal.walk-requires
walk-requires c = asked_root c.args.t c.requires c.new-w.ensures.whole c.new-w.ensures.none (walks_on c.leaf-zero.ensures c.unary-one.ensures) (ap (λ (r : Bor (List ℕ)). formula_of r.now) c.root.ensures)

pub returns : goal.returns
returns c =
    let n = c.new-w.ensures in
    let same : c.walk.new.w.out.ghost_name ≡ c.new-w.result.out.ghost_name = c.walk.ensures.same_list ∙ c.unary-one.ensures.same_list ∙ c.leaf-zero.ensures.same_list in
    let h = emits c.args.out.now (ap (λ (r : Bor (List ℕ)). formula_of r.now) c.root.ensures) c.requires n.whole n.none c.leaf-zero.ensures c.unary-one.ensures c.walk.ensures in
    grind arith
