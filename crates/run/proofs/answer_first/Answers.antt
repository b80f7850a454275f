-- The text of a table or of a refusal, which has room.
use mathlib.Core.Path.{ap, ◌∙◌}
use native.Mathlib.Omega.{arith}
use Rattle.ltl.proofs.AcceptedLaw.{most-nodes}
use Rattle.printing.specs.Printed.{refused_text, table_text}
use Rattle.printing.specs.Limits.{most_first, most_later}
use Rattle.printing.proofs.PrintedLaw.{refused-short, table-short}
use Rattle.answers.proofs.AnswerLaw.{first_place}
use Rattle.run.specs.Bounds.{gathering_room}
use Rattle.run.proofs.BoundsLaw.{put_alone}
use Rattle.run.proofs.answer_first.Goals as goal

pub returns-in-Ok : goal.returns-in-Ok
returns-in-Ok c =
    let t = c.ltl.result in
    let put = c.put_table.ensures.table (most-nodes t.numbers.now t.accepted) in
    let (text, few) = put_alone c.args.out.now.items (table_text t.numbers.now) gathering_room most_first c.requires put (table-short t.numbers.now t.accepted) (omega arith) in
    ((c.in-Ok.ensures, text ∙ ap table_text c.ltl.ensures), few)

pub returns-in-Err : goal.returns-in-Err
returns-in-Err c =
    let (text, few) = put_alone c.args.out.now.items (refused_text 1 c.in-Err.x) gathering_room most_later c.requires c.put_refused.ensures (refused-short 1 c.in-Err.x (omega arith) (λ p e. omega (arith, first_place c.in-Err.ensures p e))) (omega arith) in
    ((c.in-Err.x, c.in-Err.ensures, text), omega (arith, few))
