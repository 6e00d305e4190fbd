use Rattle.std.proofs.Common.{rules}
use Rattle.emtp_pseudo.proofs.segment.Segment.mirrored.Goals as goal

pub returns : goal.returns
returns c = search rules
