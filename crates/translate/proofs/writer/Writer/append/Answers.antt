-- `translate::writer::Writer::append` meets its contract: the node behind those that are there.
use native.Mathlib.Omega.{arith}
use mathlib.Core.Path.{◌≡◌, refl}
use Rattle.translate.proofs.StoredLaw.{stored_more}
use Rattle.translate.proofs.writer.Writer.append.Goals as goal

pub returns : goal.returns
returns c =
    let own : c.from_index-n.result.0 ≡ c.args.self.now.nodes = omega (arith, c.from_index-n.ensures, c.requires.fits) in
    record {
      last = omega arith;
      more = refl;
      stores = λ l ns S. stored_more _ _ _ S refl (rw own at c.store.ensures);
      sized = c.store.auto.out;
      same_list = refl;
    }
