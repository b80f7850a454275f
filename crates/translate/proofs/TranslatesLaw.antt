-- Demand 3: the emitted table holds exactly where the formula does, on every trace that is not empty.
use Rattle.logic.specs.Formula.{Formula}
use Rattle.logic.proofs.TranslationLaw.{translated-holds}
use Rattle.translate.specs.Emitted.{emitted}
use Rattle.translate.specs.Claim.{Translates}
use Rattle.translate.proofs.WalkLaw.{tree_emitted}

pub translates : (f : Formula) → Translates f (emitted f)
translates f lead loop h = rw (tree_emitted f) (translated-holds f lead loop h)
