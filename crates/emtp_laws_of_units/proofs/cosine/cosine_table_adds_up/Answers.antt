use Rattle.emtp_laws_of_units.proofs.TableSums.{squares, sums}
use Rattle.emtp_laws_of_units.proofs.cosine.cosine_table_adds_up.Goals as goal

pub returns-clause-sums : goal.returns-clause-sums
returns-clause-sums c = sums

pub returns-clause-squares : goal.returns-clause-squares
returns-clause-squares c = squares
