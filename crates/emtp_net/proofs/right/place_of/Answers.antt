use Rattle.std.proofs.Common.{◌∙◌, sym}
use Rattle.emtp_case.specs.Source.{is_voltage_source_at}
use Rattle.emtp_net.proofs.Sourcing.{place_found, place_missing}
use Rattle.emtp_net.proofs.right.place_of.Goals as goal

pub returns-in-Some : goal.returns-in-Some
returns-in-Some c = place_found (is_voltage_source_at c.args.node) c.args.sources.now c.in-Some.at (sym c.find_source.ensures ∙ c.in-Some.is)

pub returns-in-None : goal.returns-in-None
returns-in-None c = place_missing (is_voltage_source_at c.args.node) c.args.sources.now (sym c.find_source.ensures ∙ c.in-None.is)
