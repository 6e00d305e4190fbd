use Rattle.std.proofs.Common.{◌∙◌, ◌∷◌}
use Rattle.emtp_audit.specs.Cfg.{scale_rule}
use Rattle.emtp_audit.proofs.cfg_lines.read_scale_numbers.Goals as goal

pub returns-in-Err-clause-walks : goal.returns-in-Err-clause-walks
returns-in-Err-clause-walks c = λ more. c.in-Err.ensures.walks (scale_rule ∷ more)

pub returns-in-Ok-read_scale_number-clause-walks : goal.returns-in-Ok-read_scale_number-clause-walks
returns-in-Ok-read_scale_number-clause-walks c = λ more. c.in-Ok.ensures.walks (scale_rule ∷ more) ∙ c.in-Ok-read_scale_number.ensures.walks more

pub returns-in-Err-read_scale_number-clause-walks : goal.returns-in-Err-read_scale_number-clause-walks
returns-in-Err-read_scale_number-clause-walks c = λ more. c.in-Ok.ensures.walks (scale_rule ∷ more) ∙ c.in-Err-read_scale_number.ensures.walks more
