-- The line is answered, and another begins.
use mathlib.Core.Path.{refl}
use Rattle.run.proofs.StreamLaw.{line_done}
use Rattle.run.proofs.Run.end_line.Goals as goal

pub returns : goal.returns
returns c = line_done c.args.self.now c.answer_line.new.self _ c.requires.0 c.requires.1 refl refl refl c.clear.ensures c.requires.2 c.answer_line.ensures
