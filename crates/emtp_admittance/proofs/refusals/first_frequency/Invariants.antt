use Rattle.std.proofs.Common.{◌≡◌, drop}
use Rattle.emtp_admittance.specs.Refusals.{first_frequency}
use Rattle.emtp_admittance.proofs.refusals.first_frequency.Given as goal

abbrev pub invariant-loop-s : goal.invariant-loop-s
invariant-loop-s l = first_frequency l.sources ≡ first_frequency (drop l.s-index l.sources)
