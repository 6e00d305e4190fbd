use Rattle.emtp_laws.proofs.VariablesOfBlocks.{variable_is_output}
use Rattle.emtp_laws.proofs.control.block_variables_have_their_outputs.Goals as goal

pub returns : goal.returns
returns c = λ H m known part i b count is made at. variable_is_output c.args.case.now.parts H m known part i b c.args.case.now.fits count is made at
