-- What holds of every run, proved in `ClaimsLaw`. What an input's output is, and that there is one, is in `answers`.
use Rattle.std.specs.Prelude.{◌≡◌, false, List, ◌++◌, ℕ}
use Rattle.run.specs.declared.Run.{Run}
use Rattle.run.specs.Inner.{goes_on, Advanced, Ends, Turns}

pub record Claims : Type 0 where
  -- Whatever blocks an input comes in: what all turns printed, up to the one that ends the run, is the output.
  pub turns : {read done block out : List ℕ} {s r : Run} → Turns read done s → Advanced block s r out → goes_on r ≡ false → Ends read block (done ++ out)
