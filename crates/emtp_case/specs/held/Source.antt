-- What a source of a case holds. No clause of the program reaches it.
use Rattle.emtp_case.specs.held.Range.{IsBetween}
use Rattle.emtp_case.specs.held.Sizes.{Sizes}
use Rattle.emtp_case.specs.declared.source.Shape.{Shape}
use Rattle.emtp_case.specs.declared.source.Shape.TheVariants.{Cosine, NodeVoltage, Pulse, Ramp, Saw, Step, SwitchCurrent, SwitchStatus, Tacs}
use Rattle.emtp_case.specs.declared.source.Source.{Source}
use Rattle.emtp_fix.specs.declared.limit.TheConstants.{LARGEST_TIME, LARGEST_VALUE, TURN}
use Rattle.std.specs.Option.{ForSome}
use Rattle.std.specs.Prelude.{◌≡◌, ◌-◌, ◌^◌, ◌<◌, ◌≤◌, List, None, count_by, false, pos, unsigned_abs, ℕ}
use Rattle.emtp_case.specs.Source.{is_voltage_source_at}

-- a source whose value is measured in the network: its card has no amplitude, and it is active at all times
pub record IsMeasured (s : Source) : Type 0 where
  pub amplitude : s.amplitude ≡ pos 0
  pub start : s.start ≡ pos 0
  pub stop : s.stop ≡ None

-- the numbers of a source of this shape, whatever it refers to; what its card doesn't read is 0
abbrev pub HasShapeNumbers : Source → Shape → Type 0
HasShapeNumbers s Step = Unit {0}
HasShapeNumbers s (Ramp rise) = IsBetween 1 LARGEST_TIME rise
HasShapeNumbers s (Cosine freq phase) = IsBetween 0 (10 ^ 13) freq × IsBetween 0 (TURN - 1) phase
HasShapeNumbers s (Tacs var) = s.amplitude ≡ pos 0
HasShapeNumbers s (Pulse period width) = IsBetween 1 LARGEST_TIME period × IsBetween 1 LARGEST_TIME width
HasShapeNumbers s (Saw period) = IsBetween 1 LARGEST_TIME period
HasShapeNumbers s (NodeVoltage node) = IsMeasured s
HasShapeNumbers s (SwitchCurrent switch) = IsMeasured s
HasShapeNumbers s (SwitchStatus switch) = IsMeasured s

-- the numbers of a source, whatever it refers to
pub record HasSourceNumbers (s : Source) : Type 0 where
  pub amplitude : unsigned_abs s.amplitude ≤ LARGEST_VALUE
  pub start : unsigned_abs s.start ≤ LARGEST_TIME
  pub stop : ForSome s.stop (IsBetween 1 LARGEST_TIME)
  pub shape : HasShapeNumbers s s.shape

-- a shape of the network's sources, among so many records
abbrev pub IsNetworkShape : Sizes → Shape → Type 0
IsNetworkShape n Step = Unit {0}
IsNetworkShape n (Ramp rise) = Unit {0}
IsNetworkShape n (Cosine freq phase) = Unit {0}
IsNetworkShape n (Tacs var) = var < n.vars
IsNetworkShape n (Pulse period width) = ⊥
IsNetworkShape n (Saw period) = ⊥
IsNetworkShape n (NodeVoltage node) = ⊥
IsNetworkShape n (SwitchCurrent switch) = ⊥
IsNetworkShape n (SwitchStatus switch) = ⊥

-- a shape of the control's sources, among so many records
abbrev pub IsControlShape : Sizes → Shape → Type 0
IsControlShape n Step = Unit {0}
IsControlShape n (Ramp rise) = ⊥
IsControlShape n (Cosine freq phase) = Unit {0}
IsControlShape n (Tacs var) = ⊥
IsControlShape n (Pulse period width) = Unit {0}
IsControlShape n (Saw period) = Unit {0}
IsControlShape n (NodeVoltage node) = (1 ≤ node) × (node ≤ n.nodes)
IsControlShape n (SwitchCurrent switch) = switch < n.switches
IsControlShape n (SwitchStatus switch) = switch < n.switches

-- a source of the network, at a node other than ground
pub record IsSource (n : Sizes) (s : Source) : Type 0 where
  pub above_ground : 1 ≤ s.node
  pub there : s.node ≤ n.nodes
  pub numbers : HasSourceNumbers s
  pub shape : IsNetworkShape n s.shape

-- a source of the control; its variable isn't a standing one, and it brings no current into a node
pub record IsTacsSource (n : Sizes) (s : Source) : Type 0 where
  pub own : 6 ≤ s.node
  pub there : s.node < n.vars
  pub no_current : s.current ≡ false
  pub numbers : HasSourceNumbers s
  pub shape : IsControlShape n s.shape

-- no node has two voltage sources
abbrev pub OneVoltageEach : List Source → Type 0
OneVoltageEach sources = (node : ℕ) → count_by (is_voltage_source_at node) sources ≤ 1
