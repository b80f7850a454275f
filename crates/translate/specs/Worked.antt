-- The worked run: (psl (abort (next (strong (var 1))) (var 0))), its two tables and the PSL verdicts on its four traces.
use Rattle.std.specs.Prelude.{◌≡◌, List, [], ◌∷◌, ℕ}
use Rattle.table.specs.Node.{Node, numbers_of}
use Rattle.logic.specs.Formula.{var, Formula, strong, next, abort}
use Rattle.psl.specs.Table.{formula_of}
use Rattle.logic.specs.KnownVerdicts.{Yes, No}
use Rattle.translate.specs.Emitted.{emitted, emitted_size}
use Rattle.ltl.specs.Table.{true_node, var_node, not_node, and_node, or_node, next_node}

abbrev pub worked : Formula
worked = abort (next (strong (var 1))) (var 0)

abbrev pub psl_table : List ℕ
psl_table = 1 ∷ 1 ∷ 0 ∷ 5 ∷ 0 ∷ 0 ∷ 8 ∷ 1 ∷ 0 ∷ 1 ∷ 0 ∷ 0 ∷ 10 ∷ 2 ∷ 3 ∷ []

abbrev pub ltl_nodes : List Node
ltl_nodes =
    true_node
    ∷ not_node 0
    ∷ var_node 0
    ∷ not_node 1
    ∷ and_node 2 3
    ∷ or_node 1 4
    ∷ var_node 1
    ∷ not_node 1
    ∷ and_node 6 7
    ∷ or_node 5 8
    ∷ next_node 9
    ∷ not_node 1
    ∷ and_node 10 11
    ∷ or_node 5 12
    ∷ []

pub record Worked : Type 0 where
  pub reads : formula_of psl_table ≡ worked
  pub size : emitted_size worked ≡ 14
  pub table : emitted worked ≡ numbers_of ltl_nodes
  pub trace1 : Yes worked (1 ∷ []) []
  pub trace2 : No worked (0 ∷ 0 ∷ []) []
  pub trace3 : Yes worked [] (2 ∷ [])
  pub trace4 : No worked [] []
