-- Past the list's end nothing is put.
use mathlib.Core.Path.{refl, sym}
use native.Mathlib.Omega.{arith}
use Rattle.text.specs.Inner.Put.{sets_out}
use Rattle.text.proofs.CopyLaw.{put_rest}
use Rattle.text.proofs.lent.LentSink.put_text.Goals as goal

pub returns-then-self : goal.returns-then-self
returns-then-self c = record { is = sym (sets_out c.args.w.now c.args.self.now.list.now c.args.self.now.at c.if-self.true); ends = omega (arith, c.if-self.true); same_list = refl }

pub returns : goal.returns
returns c = record {
  is = put_rest c.args.w.now c.args.self.now.list.now c.copy_front.new.out c.args.self.now.at (omega (arith, c.if-self.false)) c.copy_front.ensures;
  ends = omega (arith, c.min-end.ensures);
  same_list = refl;
}
