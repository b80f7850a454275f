-- What is claimed of the meanings holds.
use mathlib.Core.Path.{refl, subst}
use mathlib.Core.Logic.{◌↔◌}
use mathlib.Core.List.{List, []}
use Prim.Native.Nat.{ℕ, ◌<◌}
use native.Mathlib.Omega.{arith}
use native.Mathlib.Decide.{dec_lt}
use lib.ListN.{length}
use Rattle.logic.specs.Trace.{letter_at, Has, InTrace}
use Rattle.logic.specs.Claims.{Claims}
use Rattle.logic.proofs.MomentsLaw.{letter_lead, letter_loop, letter_none, is-inside}
use Rattle.logic.proofs.OrderLaw.{extreme, mono}
use Rattle.logic.proofs.EndLaw.{weak_strong, next_last, until_last}
use Rattle.logic.proofs.EmptyLaw.{holds-empty}
use Rattle.logic.proofs.KnownVerdictsLaw.{known_verdicts}
use Rattle.logic.proofs.BorderFactsLaw.{border_facts}
use Rattle.logic.proofs.StepLaw.{until_step}
use Rattle.logic.proofs.TranslationLaw.{translated-holds}
use Rattle.logic.proofs.DecideLaw.{either, decided_ltl, decided_on}
use Rattle.logic.proofs.ShortLaw.{short_forms}
use Rattle.logic.proofs.BeyondLaw.{beyond_traces}

looping : (lead loop : List ℕ) (m : ℕ) → 0 < length loop → InTrace (letter_at lead loop) m
looping lead loop m h = go (dec_lt m (length lead))
  where
    go : Dec (m < length lead) → InTrace (letter_at lead loop) m
    go (yes b) = is-inside (letter_at lead loop) m _ (letter_lead lead loop m b)
    go (no b) = is-inside (letter_at lead loop) m _ (letter_loop lead loop m (omega arith) h)

finite : (lead : List ℕ) (m : ℕ) → InTrace (letter_at lead []) m ↔ (m < length lead)
finite lead m = (λ h. go h (dec_lt m (length lead)), λ b. is-inside (letter_at lead []) m _ (letter_lead lead [] m b))
  where
    go : InTrace (letter_at lead []) m → Dec (m < length lead) → m < length lead
    go h (yes b) = b
    go h (no b) = absurd (subst Has (letter_none lead [] m (omega arith) refl) h)

pub claims : Claims
claims =
    record {
      looping = looping;
      finite = finite;
      known_verdicts = known_verdicts;
      top_holds = λ f. (extreme f).0;
      bottom_fails = λ f. (extreme f).1;
      in_order = mono;
      weak_strong = weak_strong;
      next_last = next_last;
      until_last = until_last;
      on_empty = holds-empty;
      border_facts = border_facts;
      until_step = until_step;
      keeps = translated-holds;
      decided_at = λ x lead loop i. either (decided_ltl x lead loop i);
      decided_on = λ f lead loop. either (decided_on f lead loop);
      short_forms = short_forms;
      beyond_traces = beyond_traces;
    }
