-- What is claimed of the PSL verdict holds.
use Rattle.logic.specs.Meaning.{HoldsOn}
use Rattle.trace.proofs.JudgesLaw.{same_verdict}
use Rattle.psl.specs.Table.{formula_of}
use Rattle.psl_verdict.specs.Verdict.{psl_verdict_refusal}
use Rattle.psl_verdict.specs.Claims.{Claims}

pub claims : Claims
claims = record { one_psl = λ t lead loop. same_verdict (psl_verdict_refusal t lead loop) (HoldsOn (formula_of t) lead loop) }
