use Rattle.std.proofs.Common.{◌+◌, take}
use Rattle.emtp_card.specs.declared.cards.TheConstants.{MAX_BYTES}
use Rattle.emtp_laws_of_commands.proofs.AcceptedBytes.{bytes_are_case}
use Rattle.emtp_laws_of_commands.proofs.AuditedRuns.{audited_same}
use Rattle.emtp_laws_of_commands.proofs.records.own_record_is_audited_as_the_same.Goals as goal

pub returns : goal.returns
returns c names files text p made e there is came held = audited_same p (bytes_are_case (take (MAX_BYTES + 1) text) p is) names files text made e there is came held
