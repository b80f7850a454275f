-- What the writer of a node line answers.
use Rattle.std.specs.Prelude.{Result, Ok, Err}
use Rattle.trace.specs.declared.refusal.Refusal.TheVariants.{LineRoom}
use Rattle.std.specs.Prelude.{false, cond, List, ℕ, length, ltb}
use Rattle.std.proofs.Math.Option.{Option, none, some}
use Rattle.std.proofs.lemmas.List.Edits.{sets}
use Rattle.trace.specs.declared.refusal.Refusal.{Refusal}
use Rattle.table.specs.Node.{Node}
use Rattle.trace.specs.Refusal.{unless}
use Rattle.table.specs.Check.{node_refusal}
use Rattle.ltl.specs.Check.{ltl_rules}
use Rattle.node_lines.specs.Spelling.{node_line}

-- Refusals 11 to 15: the node's own number, then what the LTL check refuses of that node.
abbrev pub node_fault : ℕ → Node → Option Refusal
node_fault i n = unless (ltb i ltl_rules.most) ltl_rules.refusals.length (node_refusal ltl_rules i n false false)

-- The answer to a node, by its fault, its line's bytes and the room of the lent list.
abbrev pub answer_to : Option Refusal → List ℕ → ℕ → Result ℕ Refusal
answer_to (some x) w room = Err x
answer_to none w room = cond (ltb room (length w)) (Err LineRoom) (Ok (length w))

abbrev pub node_answer : ℕ → Node → ℕ → Result ℕ Refusal
node_answer i n room = answer_to (node_fault i n) (node_line i n) room

-- The lent list l afterwards: the line at its front, or as it was.
abbrev pub node_list : Result ℕ Refusal → List ℕ → List ℕ → List ℕ
node_list (Ok n) w l = sets l 0 w
node_list (Err x) w l = l
