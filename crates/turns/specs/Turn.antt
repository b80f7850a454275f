-- What a turn does, and what a run does.
use Rattle.std.specs.Prelude.{◌≡◌, false, List, [], ℕ, Option, IfSome}
use Rattle.std.specs.Io.KnownBytes.{Appends, Consumes, IsAtEnd}
use Rattle.answers.specs.Whole.{Runs}
use Rattle.run.specs.declared.Run.{Run}
use Rattle.run.specs.Inner.{goes_on, Advanced}

-- A turn that did not fail: the block was the next bytes of the input, what it printed was put behind the output, and the empty block of the run's
-- last turn was the input's end. This tells nothing of an input or an output whose bytes are not known.
pub record Moved (input input' output output' : Option (List ℕ)) (s r : Run) : Type 0 where
  pub block : List ℕ
  pub printed : List ℕ
  pub takes : Advanced block s r printed
  pub reads : Consumes input input' block
  pub writes : Appends output output' printed
  pub ends : block ≡ [] → goes_on r ≡ false → IsAtEnd input'

-- A run that came to its end put behind the output what the run on the bytes of the input prints.
abbrev pub Whole : Option (List ℕ) → Option (List ℕ) → Option (List ℕ) → Type 0
Whole input output output' = IfSome input (λ bytes. (printed : List ℕ) × Runs bytes printed × Appends output output' printed)
