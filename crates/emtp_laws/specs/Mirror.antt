-- The mirror image of a case and of its records: each voltage, each current, each wave, each flux and each segment has the
-- opposite sign.
use Rattle.std.specs.Prelude.{◌≡◌, neg_ℤ, ℤ, Bool, true, false, List, All, map, Result, Ok, Err, [], ◌∷◌, ℕ, pos}
use Rattle.emtp_case.specs.StepRecord.{BranchState, LumpedBranch, LineBranch, PseudoBranch, PhaseBranch, StepRecord, branch_current_at, switch_current_at, voltage_at}
use Rattle.emtp_case.specs.declared.branch.LineState.{LineState}
use Rattle.emtp_case.specs.declared.branch.LumpedState.{LumpedState}
use Rattle.emtp_case.specs.declared.branch.PhaseState.{PhaseState}
use Rattle.emtp_case.specs.declared.case.Parts.{Parts}
use Rattle.emtp_case.specs.declared.channel.Channel.{Channel}
use Rattle.emtp_case.specs.declared.channel.Channel.TheVariants.{BranchCurrent, BranchVoltage, NodeVoltage as NodeChannel, Status, SwitchCurrent as CurrentChannel, SwitchVoltage, Tacs as OfTacs}
use Rattle.emtp_case.specs.declared.source.Shape.{Shape}
use Rattle.emtp_case.specs.declared.source.Shape.TheVariants.{Cosine, NodeVoltage, Pulse, Ramp, Saw, Step, SwitchCurrent, SwitchStatus, Tacs}
use Rattle.emtp_case.specs.declared.source.Source.{Source}
use Rattle.emtp_case.specs.declared.switch.Switch.{Switch}
use Rattle.emtp_case.specs.declared.switch.SwitchKind.{SwitchKind}
use Rattle.emtp_case.specs.declared.switch.SwitchKind.TheVariants.{Control, Measuring, Time, Valve}
use Rattle.emtp_elim.specs.held.Matrix.{opposites}
use Rattle.emtp_machine.specs.History.{History}
use Rattle.emtp_net.specs.Part.{NetworkPart}
use Rattle.emtp_net.specs.declared.fault.NetFault.{NetFault}
use Rattle.emtp_pseudo.specs.Laws as pseudo

-- ---- the case

-- the same source with the opposite amplitude
abbrev pub mirrored_source : Source → Source
mirrored_source s = record s { amplitude = neg_ℤ s.amplitude }

-- the same network, whose sources have the opposite amplitudes
abbrev pub mirror_image : Parts → Parts
mirror_image case = record case { sources = map mirrored_source case.sources }

-- a switch that goes by the time and its own current, or is always closed
abbrev pub is_plain_kind : SwitchKind → Bool
is_plain_kind (Time close open_at margin) = true
is_plain_kind Measuring = true
is_plain_kind (Valve ignition holding control) = false
is_plain_kind (Control control) = false

-- a source that goes by the time
abbrev pub is_plain_shape : Shape → Bool
is_plain_shape Step = true
is_plain_shape (Ramp rise) = true
is_plain_shape (Cosine freq phase) = true
is_plain_shape (Tacs var) = false
is_plain_shape (Pulse period width) = true
is_plain_shape (Saw period) = true
is_plain_shape (NodeVoltage node) = true
is_plain_shape (SwitchCurrent switch) = true
is_plain_shape (SwitchStatus switch) = true

-- nothing in the network asks for the sign of a number: it has no valve, and nothing of it goes by the control
pub record HasNoSign (case : Parts) : Type 0 where
  pub switches : All (λ (s : Switch). is_plain_kind s.kind ≡ true) case.switches
  pub sources : All (λ (s : Source). is_plain_shape s.shape ≡ true) case.sources

-- ---- records

abbrev pub mirrored_lumped : LumpedState → LumpedState
mirrored_lumped s = record {
  current = neg_ℤ s.current;
  v_l = neg_ℤ s.v_l;
  v_c = neg_ℤ s.v_c;
  history_voltage = neg_ℤ s.history_voltage;
}

abbrev pub mirrored_line : LineState → LineState
mirrored_line s = record {
  from_current = neg_ℤ s.from_current;
  to_current = neg_ℤ s.to_current;
  from_wave = neg_ℤ s.from_wave;
  to_wave = neg_ℤ s.to_wave;
}

abbrev pub mirrored_phase : PhaseState → PhaseState
mirrored_phase s = record {
  from_current = neg_ℤ s.from_current;
  to_current = neg_ℤ s.to_current;
  from_wave = neg_ℤ s.from_wave;
  to_wave = neg_ℤ s.to_wave;
  from_zero_wave = neg_ℤ s.from_zero_wave;
  to_zero_wave = neg_ℤ s.to_zero_wave;
}

abbrev pub mirrored_branch : BranchState → BranchState
mirrored_branch (LumpedBranch s) = LumpedBranch (mirrored_lumped s)
mirrored_branch (LineBranch s) = LineBranch (mirrored_line s)
mirrored_branch (PseudoBranch s) = PseudoBranch (pseudo.mirrored_state s)
mirrored_branch (PhaseBranch s) = PhaseBranch (mirrored_phase s)

-- the states of the switches and what the control keeps stay
abbrev pub mirrored_record : StepRecord → StepRecord
mirrored_record r = record r {
  voltages = opposites r.voltages;
  branches = map mirrored_branch r.branches;
  switch_currents = opposites r.switch_currents;
}

abbrev pub mirrored_records : List StepRecord → List StepRecord
mirrored_records H = map mirrored_record H

-- the same of the network alone: the control keeps nothing
abbrev pub mirrored_bare : StepRecord → StepRecord
mirrored_bare r = record {
  voltages = opposites r.voltages;
  branches = map mirrored_branch r.branches;
  switch_states = r.switch_states;
  switch_currents = opposites r.switch_currents;
  values = [];
  blocks = [];
  devices = [];
}

abbrev pub bare_records : List StepRecord → List StepRecord
bare_records H = map mirrored_bare H

-- a record of the network alone
abbrev pub bare : StepRecord → StepRecord
bare r = record r { values = []; blocks = []; devices = [] }

abbrev pub without_control : List StepRecord → List StepRecord
without_control H = map bare H

-- the network's part of a record
abbrev pub mirrored_part : NetworkPart → NetworkPart
mirrored_part p = record p {
  voltages = opposites p.voltages;
  branches = map mirrored_branch p.branches;
  switch_currents = opposites p.switch_currents;
}

-- a fault stays the same: its node, its cause, and what was measured, which is a magnitude
abbrev pub mirrored_step : Result NetworkPart NetFault → Result NetworkPart NetFault
mirrored_step (Ok part) = Ok (mirrored_part part)
mirrored_step (Err fault) = Err fault

-- the records of a run, with the same end
abbrev pub mirrored_history : History → History
mirrored_history h = record h { records = mirrored_records h.records }

-- ---- samples

-- a value of the control and the state of a switch stay
abbrev pub mirrored_value : Channel → ℤ → ℤ
mirrored_value (NodeChannel n) x = neg_ℤ x
mirrored_value (BranchCurrent b) x = neg_ℤ x
mirrored_value (BranchVoltage b) x = neg_ℤ x
mirrored_value (CurrentChannel s) x = neg_ℤ x
mirrored_value (SwitchVoltage s) x = neg_ℤ x
mirrored_value (OfTacs v) x = x
mirrored_value (Status s) x = x

-- the values of all channels
abbrev pub mirrored_sample : List Channel → List ℤ → List ℤ
mirrored_sample [] xs = []
mirrored_sample (c ∷ cs) [] = []
mirrored_sample (c ∷ cs) (x ∷ xs) = mirrored_value c x ∷ mirrored_sample cs xs

-- ---- rest

-- no node has a voltage, no branch and no switch a current, and no branch a wave, a flux or a segment but the first: each number
-- is its own opposite
pub record IsQuiet (r : StepRecord) : Type 0 where
  pub voltages : (node : ℕ) → voltage_at node r ≡ pos 0
  pub currents : (branch : ℕ) → branch_current_at branch r ≡ pos 0
  pub switch_currents : (switch : ℕ) → switch_current_at switch r ≡ pos 0
  pub branches : map mirrored_branch r.branches ≡ r.branches
