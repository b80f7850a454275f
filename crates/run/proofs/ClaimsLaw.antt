-- The statements of `Claims`.
use Rattle.run.specs.Claims.{Claims}
use Rattle.run.proofs.StreamLaw.{turned}

pub claims : Claims
claims = record { turns = λ t a m. a.ends m _ _ (turned t) }
