use Rattle.emtp_warnings.proofs.ControlCards.{block_under}
use Rattle.emtp_warnings.proofs.ControlSources.{tacs_source_under}
use Rattle.emtp_warnings.proofs.ExtraCards.{extra_under}
use Rattle.emtp_warnings.proofs.OutputCards.{tacs_output_under}
use Rattle.emtp_warnings.proofs.PolynomialCards.{polynomial_under}
use Rattle.emtp_warnings.proofs.laws.unmarked_columns_of_the_control_dont_matter.Goals as goal

pub returns : goal.returns
returns c = record {
  block = block_under;
  polynomial = λ order few dt x y sound number h. polynomial_under x y sound order few dt number h;
  source = tacs_source_under;
  extra = extra_under;
  output = tacs_output_under;
}
