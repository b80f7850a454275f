use mathlib.Core.Path.{◌∙◌}
use Rattle.text.proofs.CopyLaw.{copied_more}
use Rattle.text.proofs.copy.copy_front.Goals as goal

pub loop-i-preserved : goal.loop-i-preserved
loop-i-preserved g c = c.put.ensures ∙ copied_more c.args.part.now c.args.out.now _ c.loop-i.i _ c.loop-i-test.true c.index-part-i.is c.loop-i.invariant
