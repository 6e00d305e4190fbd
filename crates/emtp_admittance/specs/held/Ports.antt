-- The two-ports that are in their places.
use Rattle.std.specs.Prelude.{◌≡◌, ◌<◌, ℕ, ℤ, List}
use Rattle.emtp_case.specs.declared.case.Parts.{Parts}
use Rattle.emtp_admittance.specs.Admittances.{port_at}
use Rattle.emtp_admittance.specs.held.Admittances.{IsSmallPort}
use Rattle.emtp_admittance.specs.Impedance.{ports_of}
use Rattle.emtp_admittance.specs.declared.admittance.TwoPort.{TwoPort}

-- those of the first branches
pub record ArePorts (case : Parts) (freq : ℤ) (out : List TwoPort) (count : ℕ) : Type 0 where
  pub value : (k : ℕ) → k < count → port_at out k ≡ port_at (ports_of case freq) k
  pub small : (k : ℕ) → k < count → IsSmallPort (port_at out k)
