use Rattle.emtp_walk.proofs.LineEnds.{as_many_with_blanks, same_but_blanks}
use Rattle.emtp_walk.proofs.laws.walk_skips_blanks_at_ends.Goals as goal

pub returns : goal.returns
returns c = record { walk = same_but_blanks; count = as_many_with_blanks }
