-- The refusals of the LTL verdict.
use mathlib.Core.Path.{◌≡◌}
use mathlib.Core.Option.{none, some}
use mathlib.Core.List.{List}
use Prim.Native.Nat.{ℕ, ◌≤◌, ◌<◌}
use borrow.Author.Tests.{lt-ltb, le-ltb}
use Rattle.trace.specs.Limits.{most_letters}
use Rattle.logic.specs.Trace.{size}
use Rattle.trace.specs.declared.refusal.Refusal.{Refusal}
use Rattle.trace.specs.declared.refusal.Refusal.TheVariants.{LongTrace, EmptyTrace}
use Rattle.ltl.specs.Check.{ltl_refusal}
use Rattle.trace.specs.Verdict.{long_refusal}
use Rattle.trace.proofs.JudgesLaw.{refused-first, too_long, not-long}
use Rattle.ltl_verdict.specs.Verdict.{ltl_verdict_refusal}

module _ (t lead loop : List ℕ) where
  pub ltl_check : {x : Refusal} → ltl_refusal t ≡ some x → ltl_verdict_refusal t lead loop ≡ some x
  unfolding ltl_verdict_refusal
  ltl_check e = refused-first _ _ (refused-first (ltl_refusal t) (long_refusal lead loop) e)

  module _ (e : ltl_refusal t ≡ none) where
    pub ltl-long : most_letters < size lead loop → ltl_verdict_refusal t lead loop ≡ some LongTrace
    unfolding ltl_verdict_refusal
    ltl-long h = refused-first _ _ (too_long (ltl_refusal t) lead loop e h)

    module _ (h : size lead loop ≤ most_letters) where
      pub ltl-empty : size lead loop ≤ 0 → ltl_verdict_refusal t lead loop ≡ some EmptyTrace
      unfolding ltl_verdict_refusal
      ltl-empty z = rw (not-long (ltl_refusal t) lead loop e h, le-ltb 0 (size lead loop) z)

      pub ltl_fine : 0 < size lead loop → ltl_verdict_refusal t lead loop ≡ none
      unfolding ltl_verdict_refusal
      ltl_fine z = rw (not-long (ltl_refusal t) lead loop e h, lt-ltb 0 (size lead loop) z)
