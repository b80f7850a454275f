-- `translate::emitted_size` meets its contract: what the nodes add, summed over the table.
use Rattle.std.proofs.Common.{◌≡◌, sum_by, arith, rules, tests}
use Rattle.std.proofs.lemmas.Iterator.{YieldsList-from_slice, YieldsList-from_map}
use Rattle.std.proofs.lemmas.Iterator.Consumers.{sum_by_from_yields_List, fits_by_from_yields_list}
use Rattle.translate.proofs.DeliversLaw.{added, size_by, size-most}
use Rattle.translate.proofs.emitted_size.Goals as goal
use Rattle.translate.proofs.emitted_size.Goals.{After-sum-added}

pub sum-added-requires-clause-fits : goal.sum-added-requires-clause-fits
sum-added-requires-clause-fits c = let t = c.args.t in
    fits_by_from_yields_list added _ c.map.result _
    (YieldsList-from_map _ added (YieldsList-from_slice c.nodes_of.result.now (search rules)) c.map.ensures.closure (λ x r q k. search (rules, tests)))
    (omega (arith, size_by t c.nodes_of.ensures, size-most t.numbers.now t.accepted))

summed : (s : After-sum-added) → s.sum-added.result ≡ sum_by added s.nodes_of.result.now
summed s =
    sum_by_from_yields_List added _ s.map.result _ s.sum-added.ensures.ran
    (YieldsList-from_map _ added (YieldsList-from_slice s.nodes_of.result.now (search rules)) s.map.ensures.closure (λ x r q k. search (rules, tests)))

pub overflow_add-result : goal.overflow_add-result
overflow_add-result c = let t = c.args.t in
    omega (arith, summed (goal.at.overflow_add-result c).After-sum-added, size_by t c.nodes_of.ensures, size-most t.numbers.now t.accepted)

pub returns : goal.returns
returns c = omega (arith, summed (goal.at.returns c).After-sum-added, size_by c.args.t c.nodes_of.ensures)
