-- The statements of `Claims`.
use Rattle.text.specs.Claims.{Claims}
use Rattle.text.proofs.ReadingLaw.{broken_alone, breaks_within}

pub claims : Claims
claims = record { one_place = λ spelled s p q a b. broken_alone spelled a b; within = λ spelled s p b. breaks_within b }
