-- What is claimed of PSL tables holds.
use mathlib.Core.Path.{sym, ◌∙◌}
use native.Mathlib.Omega.{arith}
use Rattle.psl.specs.Claims.{Claims}
use Rattle.psl.proofs.AcceptedLaw.{some-node, most-nodes, in_threes}
use Rattle.psl.proofs.PlacedLaw.{psl_placed}
use Rattle.psl.proofs.TreeLaw.{tree_nodes}
use Rattle.psl.proofs.ClosingLaw.{closing_formula}
use Rattle.psl.proofs.ClosingCheckLaw.{closing_accepted}

pub claims : Claims
claims =
    record {
      one_answer = λ t r r' e e'. e ∙ sym e';
      placed = λ t x i e p. psl_placed t x i p e;
      sized = λ t e. (sym (in_threes t e), omega (arith, some-node t e), most-nodes t e);
      whole = tree_nodes;
      stands_for = closing_formula;
      accepted = closing_accepted;
    }
