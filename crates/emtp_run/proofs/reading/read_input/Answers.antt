use Rattle.emtp_run.proofs.Readings.{reads-refused}
use Rattle.emtp_run.specs.held.Inputs.{named_input}
use Rattle.emtp_run.proofs.reading.read_input.Goals as goal

pub returns-in_err-open-clause-reading : goal.returns-in_err-open-clause-reading
returns-in_err-open-clause-reading g c =
    reads-refused (named_input c.args.input) (g.C.Cabinet.state c.args.cabinet.now) (g.C.Cabinet.state c.open.new.self) c.in_err-open.field-0.0 c.from_residual.result c.from_residual.ensures.1
    c.in_err-open.ensures.call c.in_err-open.ensures.counted c.in_err-open.ensures.err c.in_err-open.ensures.calm
