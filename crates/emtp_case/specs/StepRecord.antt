-- The record of a step, and the records of a run.
use Rattle.emtp_case.specs.declared.branch.Branch.{Branch}
use Rattle.emtp_case.specs.declared.branch.Branch.TheVariants.{Line as OfLine, Lumped as OfLumped, Phase as OfPhase, Pseudo as OfPseudo}
use Rattle.emtp_case.specs.declared.branch.LineState.{LineState}
use Rattle.emtp_case.specs.declared.branch.LumpedState.{LumpedState}
use Rattle.emtp_case.specs.declared.branch.PhaseState.{PhaseState}
use Rattle.emtp_case.specs.declared.branch.PseudoState.{PseudoState}
use Rattle.emtp_case.specs.declared.case.Parts.{Parts}
use Rattle.emtp_case.specs.declared.control.BlockState.{BlockState}
use Rattle.emtp_case.specs.declared.control.DeviceState.{DeviceState}
use Rattle.emtp_case.specs.declared.control.Limiter.TheVariants.{Free}
use Rattle.emtp_case.specs.declared.switch.Switch.{Switch}
use Rattle.emtp_case.specs.declared.switch.SwitchKind.{SwitchKind}
use Rattle.emtp_case.specs.declared.switch.SwitchKind.TheVariants.{Control, Measuring, Time, Valve}
use Rattle.emtp_case.specs.declared.switch.SwitchState.{SwitchState}
use Rattle.emtp_case.specs.declared.switch.SwitchState.TheVariants.{Closed, Opened, Waiting}
use Rattle.std.specs.Prelude.{◌+◌, if◌then◌else◌, [], Bool, List, false, int_lt, length, map, pos, replicate, slice_index_or, true, ℕ, ℤ}

-- Lists of records go newest first: the head is the last record, and the record k steps before it stands at place k.

-- What the laws keep of a branch

pub data BranchState : Type 0 where
  LumpedBranch : LumpedState → BranchState
  LineBranch : LineState → BranchState
  PseudoBranch : PseudoState → BranchState
  PhaseBranch : PhaseState → BranchState

abbrev pub no_lumped : LumpedState
no_lumped = record { current = pos 0; v_l = pos 0; v_c = pos 0; history_voltage = pos 0 }

abbrev pub no_line : LineState
no_line = record { from_current = pos 0; to_current = pos 0; from_wave = pos 0; to_wave = pos 0 }

abbrev pub no_pseudo : PseudoState
no_pseudo = record { current = pos 0; segment = pos 0; flux = pos 0 }

abbrev pub no_phase : PhaseState
no_phase = record {
  from_current = pos 0;
  to_current = pos 0;
  from_wave = pos 0;
  to_wave = pos 0;
  from_zero_wave = pos 0;
  to_zero_wave = pos 0;
}

abbrev pub lumped_of : BranchState → LumpedState
lumped_of (LumpedBranch s) = s
lumped_of (LineBranch s) = no_lumped
lumped_of (PseudoBranch s) = no_lumped
lumped_of (PhaseBranch s) = no_lumped

abbrev pub line_state_of : BranchState → LineState
line_state_of (LumpedBranch s) = no_line
line_state_of (LineBranch s) = s
line_state_of (PseudoBranch s) = no_line
line_state_of (PhaseBranch s) = no_line

abbrev pub pseudo_of : BranchState → PseudoState
pseudo_of (LumpedBranch s) = no_pseudo
pseudo_of (LineBranch s) = no_pseudo
pseudo_of (PseudoBranch s) = s
pseudo_of (PhaseBranch s) = no_pseudo

abbrev pub phase_state_of : BranchState → PhaseState
phase_state_of (LumpedBranch s) = no_phase
phase_state_of (LineBranch s) = no_phase
phase_state_of (PseudoBranch s) = no_phase
phase_state_of (PhaseBranch s) = s

-- the branch current; that of a line is the current at its first end
abbrev pub current_of : BranchState → ℤ
current_of (LumpedBranch s) = s.current
current_of (LineBranch s) = s.from_current
current_of (PseudoBranch s) = s.current
current_of (PhaseBranch s) = s.from_current

-- What the control keeps

-- past the order of a block its errors and its chain are 0 in each record
abbrev pub no_block : BlockState
no_block = record { limiter = Free; errors = replicate 8 (pos 0); chain = replicate 8 (pos 0) }

abbrev pub no_device : DeviceState
no_device = record { input = pos 0; output = pos 0 }

-- Records

-- the numbers of one step: voltages by node, with ground first; branches, switches, variables and blocks by place;
-- devices by place among the supplemental cards
pub record StepRecord : Type 0 where
  pub voltages : List ℤ
  pub branches : List BranchState
  pub switch_states : List SwitchState
  pub switch_currents : List ℤ
  pub values : List ℤ
  pub blocks : List BlockState
  pub devices : List DeviceState

-- a record before record 0: all that is read from it is 0
abbrev pub before_start : StepRecord
before_start = record {
  voltages = [];
  branches = [];
  switch_states = [];
  switch_currents = [];
  values = [];
  blocks = [];
  devices = [];
}

-- the record so many steps before the last one
abbrev pub record_back : List StepRecord → ℕ → StepRecord
record_back H k = slice_index_or H k before_start

-- the last record; where one more follows it, it is the record one step before that one
abbrev pub latest : List StepRecord → StepRecord
latest H = record_back H 0

abbrev pub voltage_at : ℕ → StepRecord → ℤ
voltage_at node r = slice_index_or r.voltages node (pos 0)

abbrev pub value_at : ℕ → StepRecord → ℤ
value_at var r = slice_index_or r.values var (pos 0)

abbrev pub switch_current_at : ℕ → StepRecord → ℤ
switch_current_at switch r = slice_index_or r.switch_currents switch (pos 0)

-- before record 0 each switch is open
abbrev pub switch_state_at : ℕ → StepRecord → SwitchState
switch_state_at switch r = slice_index_or r.switch_states switch Waiting

abbrev pub lumped_at : ℕ → StepRecord → LumpedState
lumped_at branch r = slice_index_or (map lumped_of r.branches) branch no_lumped

abbrev pub line_at : ℕ → StepRecord → LineState
line_at branch r = slice_index_or (map line_state_of r.branches) branch no_line

abbrev pub pseudo_at : ℕ → StepRecord → PseudoState
pseudo_at branch r = slice_index_or (map pseudo_of r.branches) branch no_pseudo

abbrev pub phase_state_at : ℕ → StepRecord → PhaseState
phase_state_at branch r = slice_index_or (map phase_state_of r.branches) branch no_phase

abbrev pub branch_current_at : ℕ → StepRecord → ℤ
branch_current_at branch r = slice_index_or (map current_of r.branches) branch (pos 0)

abbrev pub block_at : ℕ → StepRecord → BlockState
block_at block r = slice_index_or r.blocks block no_block

abbrev pub device_at : ℕ → StepRecord → DeviceState
device_at extra r = slice_index_or r.devices extra no_device

-- Record 0

abbrev pub is_closed : SwitchState → Bool
is_closed Waiting = false
is_closed Closed = true
is_closed Opened = false

-- a time switch that closes below 0 is closed from the start, and a measuring switch is always
abbrev pub starting_state : SwitchKind → SwitchState
starting_state (Time close open_at margin) = if int_lt close (pos 0) then Closed else Waiting
starting_state Measuring = Closed
starting_state (Valve ignition holding control) = Opened
starting_state (Control control) = Opened

abbrev pub branch_at_rest : Branch → BranchState
branch_at_rest (OfLumped b) = LumpedBranch no_lumped
branch_at_rest (OfLine b) = LineBranch no_line
branch_at_rest (OfPseudo b) = PseudoBranch no_pseudo
branch_at_rest (OfPhase b) = PhaseBranch no_phase

-- the record of rest: all numbers are 0, and each switch has its starting state
abbrev pub rest_of : Parts → StepRecord
rest_of p = record {
  voltages = replicate (length p.nodes + 1) (pos 0);
  branches = map branch_at_rest p.branches;
  switch_states = map (λ (s : Switch). starting_state s.kind) p.switches;
  switch_currents = replicate (length p.switches) (pos 0);
  values = replicate (length p.vars) (pos 0);
  blocks = replicate (length p.blocks) no_block;
  devices = replicate (length p.extras) no_device;
}
