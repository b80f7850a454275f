-- A list that passed the tests of nodes has a last node, of a kind that there is.
use mathlib.Core.Path.{◌≡◌, refl, ap, ◌∙◌}
use mathlib.Core.Option.{none}
use mathlib.Core.List.{List}
use Prim.Native.Nat.{ℕ, ◌+◌, ◌*◌, ◌-◌}
use native.Mathlib.Omega.{arith}
use lib.ListN.{length, get_or}
use Rattle.table.specs.Node.{count}
use Rattle.table.specs.Check.{table_refusal}
use Rattle.table.proofs.CheckLaw.{table-sized, kind_in}
use Rattle.table.proofs.PlaceLaw.{known_ok}
use Rattle.psl.specs.Kind.{number}
use Rattle.psl.specs.Check.{psl_rules}
use Rattle.psl.proofs.node.last_node.Goals as goal

-- Its numbers are the last three.
last-at : (t : List ℕ) → table_refusal psl_rules t ≡ none → (m n : ℕ) → m + n ≡ 3 → {j : ℕ} → j ≡ 3 * (count t - 1) + m → length t - n ≡ j
last-at t u m n h e = omega (arith, (table-sized psl_rules t u).some, (table-sized psl_rules t u).threes)

pub unreachable-requires : goal.unreachable-requires
unreachable-requires c = omega (arith, (table-sized psl_rules c.args.t.now c.requires).some)

pub unwrap-requires : goal.unwrap-requires
unwrap-requires c = let t = c.args.t.now in
    known_ok psl_rules number _ _ c.try_from.ensures
    (let z : length t - 3 ≡ 3 * (count t - 1) = last-at t c.requires 0 3 refl (omega arith) in rw z (kind_in psl_rules t c.requires (count t - 1) (omega (arith, (table-sized psl_rules t c.requires).some))))

pub returns : goal.returns
returns c =
    let t = c.args.t.now in
    let k = rw c.unwrap.ensures at c.try_from.ensures in
    let z : length t - 3 ≡ 3 * (count t - 1) = last-at t c.requires 0 3 refl (omega arith) in (
      k.0 ∙ ap (λ (m : ℕ). get_or t m 0) z,
      ap (λ (m : ℕ). get_or t m 0) (last-at t c.requires 1 2 refl (omega arith)),
      ap (λ (m : ℕ). get_or t m 0) (last-at t c.requires 2 1 refl (omega arith)),
    )
