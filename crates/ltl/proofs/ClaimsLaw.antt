-- What is claimed of LTL tables holds.
use mathlib.Core.Path.{refl, sym, ◌∙◌}
use mathlib.Core.Option.{some-ne-none}
use native.Mathlib.Omega.{arith}
use Rattle.table.proofs.CheckLaw.{table-sized}
use Rattle.table.proofs.NamedLaw.{Placing, table_placed}
use Rattle.ltl.specs.Check.{ltl_rules}
use Rattle.ltl.specs.Claims.{Claims}
use Rattle.ltl.proofs.AcceptedLaw.{some-node, most-nodes, is-var, left_below, right_below, left-unused, right_unused}

pub placing : Placing ltl_rules
placing = record { length = refl; kind = λ i. refl; unused = λ i. refl; signal = λ i. refl; operand = λ i. refl; sort = λ s e i. absurd (some-ne-none s (sym e)) }

pub claims : Claims
claims =
    record {
      one_answer = λ t r r' e e'. e ∙ sym e';
      placed = λ t x i e p. table_placed ltl_rules placing x t e i p;
      sized = λ t e. (omega (arith, (table-sized ltl_rules t e).threes), omega (arith, some-node t e), most-nodes t e);
      signal = is-var;
      before = λ t e i h. (left_below t e i h, right_below t e i h);
      blank = λ t e i h. (left-unused t e i h, right_unused t e i h);
    }
