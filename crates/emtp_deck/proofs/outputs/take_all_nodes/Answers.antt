use Rattle.emtp_case.specs.declared.limit.TheConstants.{MOST_CHANNELS}
use Rattle.std.proofs.Common.{◌∙◌, ◌+◌, ◌≤◌, sym, arith, length}
use Rattle.emtp_case.specs.held.Sizes.{sizes_of}
use Rattle.emtp_deck.specs.Made.{count_asked}
use Rattle.emtp_deck.specs.Outputs.{node_channels}
use Rattle.emtp_sense.proofs.WithinLimits.{within}
use Rattle.emtp_deck.proofs.Keeping.{length_of_nodes, nodes_there, on_ok, with_more_outputs}
use Rattle.emtp_deck.proofs.outputs.take_all_nodes.Goals as goal

pub returns-clause-filling : goal.returns-clause-filling
returns-clause-filling c =
    let f = c.args.filling.now in
    let n = length f.draft.parts.nodes in
    let room : count_asked f.asked + n ≤ MOST_CHANNELS = within 64 (count_asked f.asked + n) 1 (sym (rw c.len-nodes.ensures at rw c.no_room.ensures at c.too_many.ensures) ∙ c.in_default.is) in
    on_ok c.ask_nodes.result (λ e. with_more_outputs f c.ask_nodes.new.outputs (node_channels n) c.requires.filling e (omega (arith, room, length_of_nodes n)) (nodes_there (sizes_of f.draft.parts) n (omega arith))) (rw c.len-nodes.ensures at c.ask_nodes.ensures.ok)
