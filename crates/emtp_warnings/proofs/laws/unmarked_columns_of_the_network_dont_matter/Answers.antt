use Rattle.emtp_warnings.proofs.NetworkCards.{branch_under, first_under, second_under, source_under, switch_under, tolerance_under}
use Rattle.emtp_warnings.proofs.OutputCards.{output_under}
use Rattle.emtp_warnings.proofs.PointCards.{point_under}
use Rattle.emtp_warnings.proofs.laws.unmarked_columns_of_the_network_dont_matter.Goals as goal

pub returns : goal.returns
returns c = record {
  tolerance = tolerance_under;
  first = λ x y sound ends number h. first_under x y sound number ends.one ends.other h;
  second = λ x y sound ends number h. second_under x y sound number ends.one ends.other h;
  branch = λ dt wide x y sound number h. branch_under x y sound number dt wide h;
  switch = switch_under;
  source = source_under;
  point = λ scale before count dt x y sound number h. point_under x y sound number scale before count dt h;
  output = output_under;
}
