-- The lead-in's letters with nothing before them, then the loop's with the lead-in's before them.
use Rattle.std.proofs.Common.{[], arith}
use Rattle.rows.proofs.signal_row.Goals as goal

pub returns : goal.returns
returns c = let t = c.args.trace in
    c.signal_after-2.ensures t.lead.now (c.signal_after.ensures [] (λ i m e l. absurd (omega arith)))
