use Rattle.std.proofs.Common.{rules, ◌∙◌}
use Rattle.text.proofs.ScanLaw.{byte_stops, not_byte}
use Rattle.text.proofs.scan.Cursor.accept.Goals as goal

pub returns-then-ne-clause-read : goal.returns-then-ne-clause-read
returns-then-ne-clause-read c = (search rules, byte_stops _ _ _ (λ e. not_byte c.byte.result _ c.if-ne.ensures (c.byte.ensures ∙ e)))
