-- The open line is answered as if byte 10 ended it.
use mathlib.Core.Path.{sym, ◌∙◌}
use Rattle.run.proofs.StreamLaw.{finish_whole, finish_open}
use Rattle.run.proofs.Run.finish.Goals as goal

pub returns-then-none_open : goal.returns-then-none_open
returns-then-none_open c = finish_whole c.args.self.now c.requires.0 (sym c.none_open.ensures ∙ c.if-none_open.true)

pub returns : goal.returns
returns c = finish_open c.args.self.now c.requires.0 c.end_line.new.self c.requires.1 (sym c.none_open.ensures ∙ c.if-none_open.false) c.end_line.ensures
