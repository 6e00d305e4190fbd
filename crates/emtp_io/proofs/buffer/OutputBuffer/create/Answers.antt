use Rattle.std.proofs.Common.{rules}
use Rattle.emtp_io.proofs.buffer.OutputBuffer.create.Goals as goal

pub returns-clause-created : goal.returns-clause-created
returns-clause-created c = search rules
