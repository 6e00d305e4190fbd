-- What a case keeps: its limits by count, and how its records fit each other. No clause of the program reaches it.
use Rattle.emtp_case.specs.declared.limit.TheConstants.{MOST_BRANCHES, MOST_CHANNELS, MOST_CONTROL_CARDS, MOST_HISTORY_VALUES, MOST_NODES, MOST_POINTS, MOST_SOURCES, MOST_STORED_VALUES, MOST_SWITCHES, MOST_VARIABLES}
use Rattle.emtp_case.specs.held.Branch.{AreInThrees, IsBranch, IsTrio}
use Rattle.emtp_case.specs.held.Channel.{IsChannel}
use Rattle.emtp_case.specs.held.Control.{IsBlock, IsExtra, var_of}
use Rattle.emtp_case.specs.HistoryValues.{history_values_of}
use Rattle.emtp_case.specs.held.Name.{IsName}
use Rattle.emtp_case.specs.RunData.{samples_of}
use Rattle.emtp_case.specs.held.RunData.{IsRun}
use Rattle.emtp_case.specs.held.Sizes.{sizes_of}
use Rattle.emtp_case.specs.held.Source.{IsSource, IsTacsSource, OneVoltageEach}
use Rattle.emtp_case.specs.held.Switch.{IsSwitch}
use Rattle.emtp_case.specs.declared.case.Parts.{Parts}
use Rattle.emtp_case.specs.declared.control.Block.{Block}
use Rattle.emtp_case.specs.declared.source.Source.{Source}
use Rattle.std.specs.Prelude.{◌≡◌, ◌+◌, ◌*◌, ◌<◌, ◌≤◌, ◌++◌, ◌==◌, [], All, List, count_by, length, map, take, ℕ}
use Rattle.emtp_case.specs.Case.{standing_names}

-- the limits by count
pub record HasCounts (p : Parts) : Type 0 where
  pub nodes : length p.nodes ≤ MOST_NODES
  pub branches : length p.branches ≤ MOST_BRANCHES
  pub trios : 3 * length p.trios ≤ length p.branches
  pub points : length p.points ≤ MOST_POINTS * (length p.branches + length p.extras)
  pub switches : length p.switches ≤ MOST_SWITCHES
  pub sources : length p.sources ≤ MOST_SOURCES
  pub vars : length p.vars ≤ MOST_VARIABLES
  pub tacs_sources : length p.tacs_sources ≤ MOST_CONTROL_CARDS
  pub blocks : length p.blocks ≤ MOST_CONTROL_CARDS
  pub extras : length p.extras ≤ MOST_CONTROL_CARDS
  pub channels : length p.channels ≤ MOST_CHANNELS
  pub stored : length p.channels * samples_of p.run ≤ MOST_STORED_VALUES
  pub history : history_values_of p ≤ MOST_HISTORY_VALUES

-- the branches, switches and sources
pub record IsNetwork (p : Parts) : Type 0 where
  pub names : All IsName p.nodes
  pub branches : All (IsBranch p.run (sizes_of p) p.points) p.branches
  pub trios : All (IsTrio p.run) p.trios
  pub in_threes : AreInThrees p.branches p.trios
  pub switches : All (IsSwitch (sizes_of p)) p.switches
  pub sources : All (IsSource (sizes_of p)) p.sources
  pub one_voltage : OneVoltageEach p.sources

-- the variables, and what computes them
pub record IsControl (p : Parts) : Type 0 where
  pub standing : take 6 p.vars ≡ standing_names
  pub names : All IsName p.vars
  pub tacs_sources : All (IsTacsSource (sizes_of p)) p.tacs_sources
  pub blocks : All (IsBlock p.run (sizes_of p)) p.blocks
  pub extras : All (IsExtra (sizes_of p) p.points) p.extras

-- the variables that the cards define
abbrev pub defined_vars : Parts → List ℕ
defined_vars p = map (λ (s : Source). s.node) p.tacs_sources ++ map (λ (b : Block). b.var) p.blocks ++ map var_of p.extras

-- each variable but the standing ones is that of exactly one card
abbrev pub DefinesEach : Parts → Type 0
DefinesEach p = (v : ℕ) → 6 ≤ v → v < length p.vars → count_by (λ d. d == v) (defined_vars p) ≡ 1

abbrev pub AreChannels : Parts → Type 0
AreChannels p = All (IsChannel (sizes_of p)) p.channels

-- the records fit each other, but for variables that no card defines yet
pub record IsDraft (p : Parts) : Type 0 where
  pub run : IsRun p.run
  pub counts : HasCounts p
  pub network : IsNetwork p
  pub control : IsControl p
  pub channels : AreChannels p

-- the records fit each other
pub record IsCase (p : Parts) : Type 0 where
  pub draft : IsDraft p
  pub defined : DefinesEach p

-- the case has no control
pub record HasNoControl (p : Parts) : Type 0 where
  pub vars : p.vars ≡ standing_names
  pub tacs_sources : p.tacs_sources ≡ []
  pub blocks : p.blocks ≡ []
  pub extras : p.extras ≡ []
