-- The statements of `Claims`.
use Rattle.printing.specs.Claims.{Claims}
use Rattle.printing.proofs.PrintedLaw.{refused-short, trace-short, table-short}

pub claims : Claims
claims = record { refused_short = refused-short; trace_short = trace-short; table_short = table-short }
