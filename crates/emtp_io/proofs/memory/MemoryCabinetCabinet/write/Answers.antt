use Rattle.std.proofs.Common.{rules}
use Rattle.emtp_io.proofs.memory.MemoryCabinetCabinet.write.Goals as goal

pub returns-in-Some-clause-err : goal.returns-in-Some-clause-err
returns-in-Some-clause-err c = search rules
