use Rattle.emtp_walk.proofs.Comments.{as_many_with_comments, same_but_comments}
use Rattle.emtp_walk.proofs.laws.walk_skips_comments.Goals as goal

pub returns : goal.returns
returns c = record { walk = same_but_comments; count = as_many_with_comments }
