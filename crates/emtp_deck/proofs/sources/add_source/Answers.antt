use Rattle.std.proofs.Common.{ap, length}
use Rattle.emtp_case.specs.held.Sizes.{sizes_of}
use Rattle.emtp_deck.proofs.Driving.{driven_source}
use Rattle.emtp_deck.proofs.Keeping.{with_more_sources}
use Rattle.emtp_deck.specs.Sources.{source_at}
use Rattle.emtp_deck.proofs.sources.add_source.Goals as goal

pub add_source-requires-clause-fits : goal.add_source-requires-clause-fits
add_source-requires-clause-fits c =
    let p = c.args.filling.now.draft.parts in
    rw c.source_at-source.ensures (driven_source (sizes_of p) c.args.filling.now.variables.keys c.args.card.now c.args.node (ap length c.requires.filling.variables) c.requires.card c.requires.above_ground c.requires.there c.requires.driver)

pub returns-clause-filling : goal.returns-clause-filling
returns-clause-filling c =
    with_more_sources c.args.filling.now c.add_source.new.self (source_at c.args.filling.now.variables.keys c.args.card.now c.args.node) c.requires.filling (rw c.source_at-source.ensures at c.in_ok-add_source.ensures.ok)
