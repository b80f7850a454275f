-- The measure is eight times what is left of the line, and more the nearer a function is to the operands.
use Rattle.std.proofs.Common.{◌+◌, ◌*◌, ◌-◌, length}
use Rattle.formula_lines.proofs.forms.+reader.Given as goal

abbrev pub decreases-read_form : goal.decreases-read_form
decreases-read_form l = 8 * (length l.cursor.now.line.now - l.cursor.now.at)

abbrev pub decreases-read_operands : goal.decreases-read_operands
decreases-read_operands l = 8 * (length l.cursor.now.line.now - l.cursor.now.at) + 4

abbrev pub decreases-read_again : goal.decreases-read_again
decreases-read_again l = 8 * (length l.line.now - l.at) + 1

abbrev pub decreases-close_short_two : goal.decreases-close_short_two
decreases-close_short_two l = 8 * (length l.line.now - l.at) + 2

abbrev pub decreases-close_two : goal.decreases-close_two
decreases-close_two l = 8 * (length l.line.now - l.at) + 3
