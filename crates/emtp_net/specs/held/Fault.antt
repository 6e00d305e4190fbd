-- What a fault names.
use Rattle.std.specs.Prelude.{◌≤ℤ◌, ℕ, ℤ, pos}
pub use Rattle.emtp_case.specs.held.EndNames.{IsNode}
use Rattle.emtp_case.specs.declared.case.Parts.{Parts}
use Rattle.emtp_net.specs.declared.fault.NetFault.{NetFault}
use Rattle.emtp_net.specs.declared.fault.NetFault.TheVariants.{Range, Residual, Tied, ZeroPivot}

-- a node with a magnitude measured there
pub record HasMeasure (case : Parts) (node : ℕ) (measured : ℤ) : Type 0 where
  pub is_node : IsNode case node
  pub magnitude : pos 0 ≤ℤ measured

-- a fault names a node of the case
abbrev pub NamesNode : Parts → NetFault → Type 0
NamesNode case (Tied node) = IsNode case node
NamesNode case (ZeroPivot node) = IsNode case node
NamesNode case (Range node) = IsNode case node
NamesNode case (Residual node measured) = HasMeasure case node measured
