-- What is claimed of the translator holds.
use mathlib.Core.Path.{◌≡◌, sym, ◌∙◌}
use mathlib.Core.List.{List}
use Prim.Native.Nat.{ℕ, zero, suc, ◌+◌, ◌*◌}
use native.Mathlib.Omega.{arith}
use Rattle.logic.specs.Formula.{btrue, Formula, weak, next}
use Rattle.psl.specs.Size.{weigh_b, weigh, node_count}
use Rattle.translate.specs.Emitted.{added_by, emitted_size}
use Rattle.translate.specs.Answer.{Delivers}
use Rattle.translate.specs.Claims.{Claims}
use Rattle.std.specs.Prelude.{Result}
use Rattle.trace.specs.declared.refusal.Refusal.{Refusal}
use Rattle.translate.proofs.WalkLaw.{length-emitted}
use Rattle.translate.proofs.TranslatesLaw.{translates}
use Rattle.translate.proofs.WorkedLaw.{worked}
use Rattle.translate.proofs.EmittedLaw.{emitted-accepted}
use Rattle.translate.proofs.DeliversLaw.{size-most, was_accepted}

one_answer : (t l : List ℕ) (r r' : Result ℕ Refusal) (m m' : List ℕ) → Delivers t l r m → Delivers t l r' m' → (r ≡ r') × (m ≡ m')
one_answer t l r r' m m' d e = (d.answers ∙ sym e.answers, d.leaves ∙ sym e.leaves)

-- The largest size for its nodes: next over next, the kind that adds most.
nexts : ℕ → Formula
nexts zero = weak btrue
nexts (suc n) = next (nexts n)

nexts_size : (n : ℕ) → (node_count (nexts n) ≡ n + 2) × (emitted_size (nexts n) ≡ 4 * n + 6)
unfolding nexts weigh weigh_b added_by
nexts_size zero = (omega arith, omega arith)
nexts_size (suc n) = (omega (arith, (nexts_size n).0), omega (arith, (nexts_size n).1))

pub claims : Claims
claims =
    record {
      one_answer = one_answer;
      success = was_accepted;
      sized = length-emitted;
      bounded = size-most;
      reached = (nexts 1022, omega (arith, (nexts_size 1022).0), omega (arith, (nexts_size 1022).1));
      passes = λ t e. emitted-accepted t e (omega (arith, size-most t e));
      keeps = translates;
      worked = worked;
    }
