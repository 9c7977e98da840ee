use Rattle.std.proofs.Common.{ℕ, ◌<◌}
use Rattle.entity_graph.specs.GraphFaults.{IsOfText}
use Rattle.entity_graph.specs.Links.{places}
use Rattle.entity_graph.specs.FirstFaults.{AreAcyclic, IsFault}
use Rattle.entity_graph.specs.Order.{Rings}
use Rattle.entity_graph.proofs.Cycles.{within, acyclic, first_cycle}
use Rattle.entity_graph.proofs.Found.{found_order, found_root, match_mapped}
use Rattle.entity_graph.proofs.stages.find_places.Goals as goal

pub find_order-requires-clause-within : goal.find_order-requires-clause-within
find_order-requires-clause-within c = within c.args.links.now c.requires.present

pub returns-clause-acyclic : goal.returns-clause-acyclic
returns-clause-acyclic c =
    let rows = c.args.links.now in
    found_order (λ _. AreAcyclic rows) (λ _. Unit {0}) c.in_ok-find_order.field-0 c.order_found.result c.order_found.ensures
    (match_mapped (λ _. (e : ℕ) → ¬ Rings (places rows) e) (λ root. Rings (places rows) root × ((e : ℕ) → e < root → ¬ Rings (places rows) e)) (λ _. AreAcyclic rows) (λ _. Unit {0}) c.in_ok-find_order.field-0 (λ _ none. acyclic rows c.requires.present none) (λ _ _. tt)
    c.in_ok-find_order.ensures.rings)

pub returns-clause-first_fault : goal.returns-clause-first_fault
returns-clause-first_fault c =
    let rows = c.args.links.now in
    found_root (λ _. (e : ℕ) → ¬ Rings (places rows) e) (λ root. Rings (places rows) root × ((e : ℕ) → e < root → ¬ Rings (places rows) e)) (λ f. IsOfText f → IsFault rows f) c.in_ok-find_order.field-0 c.order_found.result
    c.order_found.ensures c.in_ok-find_order.ensures.rings
    (λ root first. λ _. (c.requires.present, c.requires.directed, first_cycle rows c.requires.present root first.0 first.1))
