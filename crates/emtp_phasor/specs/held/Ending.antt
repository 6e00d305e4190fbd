-- How solutions end, and what stops an opening.
use Rattle.std.specs.Prelude.{◌≡◌, ℤ, Err}
use Rattle.emtp_case.specs.held.EndNames.{IsNode}
use Rattle.emtp_case.specs.declared.case.Parts.{Parts}
use Rattle.emtp_phasor.specs.Steady.{steady}
use Rattle.emtp_phasor.specs.declared.ending.Ending.{Ending}
use Rattle.emtp_phasor.specs.declared.resting_network.Stop.{Stop}
use Rattle.emtp_phasor.specs.declared.resting_network.Stop.TheVariants.{Ended, NoMemory}

-- the steady state at a frequency ends so, and names a node of the case
pub record EndsSteady (case : Parts) (freq : ℤ) (end : Ending) : Type 0 where
  pub is : steady case freq ≡ Err end
  pub node : IsNode case end.node

-- it ends so at every frequency
pub record EndsAlways (case : Parts) (end : Ending) : Type 0 where
  pub is : (freq : ℤ) → steady case freq ≡ Err end
  pub node : IsNode case end.node

-- the opening is stopped by such an end; want of memory is free
abbrev pub StopsOpening : Parts → Stop → Type 0
StopsOpening case (Ended end) = EndsAlways case end
StopsOpening case NoMemory = Unit {0}
