use Rattle.std.proofs.Common.{ap, arith, length, sym, ◌∙◌}
use Rattle.emtp_machine.specs.held.Samples.{Sampled}
use Rattle.emtp_machine.proofs.SampleRows.{length-rows_of}
use Rattle.emtp_machine.proofs.samples.Samples.count.Goals as goal

pub returns-clause-value : goal.returns-clause-value
returns-clause-value c =
    sym (length-rows_of c.self.inside.channels c.self.inside.count c.self.inside.values.items)
    ∙ ap (λ (s : Sampled). length s.rows) c.self.view_is

pub returns-clause-room : goal.returns-clause-room
returns-clause-room c = omega (arith, c.self.invariant.within, ap (λ (s : Sampled). s.room) c.self.view_is)
