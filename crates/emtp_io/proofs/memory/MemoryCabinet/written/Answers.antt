use Rattle.std.proofs.Common.{rules}
use Rattle.emtp_io.proofs.memory.MemoryCabinet.written.Goals as goal

pub returns-in-Dat : goal.returns-in-Dat
returns-in-Dat c = search rules
