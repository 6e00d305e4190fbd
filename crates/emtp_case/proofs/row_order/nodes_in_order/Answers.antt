use Rattle.std.specs.Prelude.{map, length}
use Rattle.std.proofs.Common.{◌∙◌, ap}
use Rattle.emtp_case.specs.declared.row_order.Key.{Key}
use Rattle.emtp_case.proofs.NodeOrder.{sorted_nodes}
use Rattle.emtp_case.proofs.KeyCompared.{sorted_by_key}
use Rattle.emtp_case.proofs.row_order.nodes_in_order.Goals as goal

pub returns-clause-each_once : goal.returns-clause-each_once
returns-clause-each_once c =
    let p = c.args.parts.now in
    let listed = c.in_ok-nodes.ensures ∙ ap (map (λ (k : Key). k.node)) c.deref.ensures.value in
    (sorted_nodes p (length p.nodes) c.in_ok-keys.keys.items c.sort_unstable.new.self.items c.in_ok-nodes.nodes.items c.in_ok-keys.ensures c.sort_unstable.ensures.permutation (sorted_by_key c.sort_unstable.new.self.items c.sort_unstable.ensures.sorted) listed).each_once

pub returns-clause-rising : goal.returns-clause-rising
returns-clause-rising c =
    let p = c.args.parts.now in
    let listed = c.in_ok-nodes.ensures ∙ ap (map (λ (k : Key). k.node)) c.deref.ensures.value in
    (sorted_nodes p (length p.nodes) c.in_ok-keys.keys.items c.sort_unstable.new.self.items c.in_ok-nodes.nodes.items c.in_ok-keys.ensures c.sort_unstable.ensures.permutation (sorted_by_key c.sort_unstable.new.self.items c.sort_unstable.ensures.sorted) listed).rising
