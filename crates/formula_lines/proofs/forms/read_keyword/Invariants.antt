-- None of the keywords so far stands, and the cursor is where it was.
use Rattle.std.proofs.Common.{◌≡◌, map, take}
use Rattle.formula_lines.specs.Inner.Kinds.{number}
use Rattle.formula_lines.specs.Inner.Reader.{NoneOf}
use Rattle.formula_lines.proofs.forms.read_keyword.Given as goal

abbrev pub invariant-loop-keyword : goal.invariant-loop-keyword
invariant-loop-keyword l = record {
  line : l.cursor.line.now ≡ l.fn.cursor.line.now;
  place : l.cursor.at ≡ l.fn.cursor.at;
  tried : NoneOf (map number (take l.keyword-index l.keyword-items)) l.fn.cursor.line.now l.fn.cursor.at l.fault.0;
}
