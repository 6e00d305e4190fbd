use Rattle.std.proofs.Common.{rules}
use Rattle.emtp_io.proofs.disk.create_file.Goals as goal

pub returns-in-Err-clause-kept : goal.returns-in-Err-clause-kept
returns-in-Err-clause-kept g c = search rules
