-- Of a kind, and of a number that is none.
use mathlib.Core.Path.{ap, ◌∙◌}
use Rattle.node_lines.specs.Spelling.{ltl_word, ltl_places}
use Rattle.node_lines.proofs.WriterLaw.{few_places, no_kind}
use Rattle.node_lines.proofs.spelled.Goals as goal

pub returns-in-Ok : goal.returns-in-Ok
returns-in-Ok c = let k = c.in-Ok.ensures.0 in
    record {
      word = c.word.ensures ∙ ap ltl_word k;
      places = c.places.ensures ∙ ap ltl_places k;
      most = rw c.places.ensures (few_places c.in-Ok.k);
    }

pub returns-in-Err : goal.returns-in-Err
returns-in-Err c = no_kind c.args.kind c.in-Err.ensures
