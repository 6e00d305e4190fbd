use Rattle.std.proofs.Common.{◌+◌, arith, sym, ◌∙◌}
use Rattle.emtp_sense.proofs.ControlJudging.{source_fine, sources_next}
use Rattle.emtp_sense.proofs.control_sense.tacs_sources_bad.Goals as goal

pub loop-card-preserved : goal.loop-card-preserved
loop-card-preserved c =
    let none = sym c.tacs_source_bad.ensures ∙ c.in_default.is in
    let nodes = c.args.names.now.nodes.keys in
    let variables = c.args.names.now.variables.keys in
    let fine = source_fine nodes c.args.switches.now variables c.loop-card.at (c.args.first + c.loop-card.at) c.card-item.result none in
    record {
      same = c.loop-card.invariant.same ∙ sources_next nodes c.args.switches.now variables c.args.first c.loop-card.at c.args.cards.now c.loop-card.card-index c.card-item.result c.card-item.is c.loop-card-test.true none;
      few = omega (arith, fine.room);
    }
