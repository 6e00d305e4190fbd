use Rattle.std.proofs.Common.{refl}
use Rattle.emtp_phasor.specs.Steady.{steady}
use Rattle.emtp_phasor.proofs.Balancing.{balanced}
use Rattle.emtp_phasor.proofs.laws.steady_rows_balance.Goals as goal

pub returns : goal.returns
returns c = λ case freq. balanced case freq (steady case freq) refl
