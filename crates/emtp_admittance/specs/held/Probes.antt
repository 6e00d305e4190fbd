-- Beside `Probes`: what values hold for their proofs, and what premises say. No clause of the program reaches it.
use Rattle.std.specs.Prelude.{pos, ◌<ℤ◌}
use Rattle.emtp_case.specs.held.EndNames.{IsNode}
use Rattle.emtp_case.specs.declared.case.Parts.{Parts}
use Rattle.emtp_admittance.specs.declared.probe.Probe.{Probe}

-- it stands at a node of the case, and its amplitude is above 0
pub record IsProbe (case : Parts) (p : Probe) : Type 0 where
  pub node : IsNode case p.node
  pub above : pos 0 <ℤ p.amplitude
