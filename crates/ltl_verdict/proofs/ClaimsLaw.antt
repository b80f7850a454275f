-- What is claimed of the LTL verdict holds.
use Rattle.logic.specs.LtlMeaning.{LtlHoldsOn}
use Rattle.trace.proofs.JudgesLaw.{same_verdict}
use Rattle.ltl.specs.Table.{tree_of}
use Rattle.ltl_verdict.specs.Verdict.{ltl_verdict_refusal}
use Rattle.ltl_verdict.specs.Claims.{Claims}

pub claims : Claims
claims = record { one_ltl = λ t lead loop. same_verdict (ltl_verdict_refusal t lead loop) (LtlHoldsOn (tree_of t) lead loop) }
