-- The counts of a case beside their limits.
use Rattle.std.specs.Prelude.{◌*◌, ◌≤◌, length}
use Rattle.emtp_case.specs.HistoryValues.{history_values_of}
use Rattle.emtp_case.specs.RunData.{samples_of}
use Rattle.emtp_case.specs.declared.case.Parts.{Parts}
use Rattle.emtp_case.specs.declared.limit.TheConstants.{MOST_BRANCHES, MOST_CHANNELS, MOST_CONTROL_CARDS, MOST_HISTORY_VALUES, MOST_NODES, MOST_SOURCES, MOST_STEPS, MOST_STORED_VALUES, MOST_SWITCHES}

-- no count is above its limit
pub record AreWithinLimits (p : Parts) : Type 0 where
  pub nodes : length p.nodes ≤ MOST_NODES
  pub branches : length p.branches ≤ MOST_BRANCHES
  pub switches : length p.switches ≤ MOST_SWITCHES
  pub sources : length p.sources ≤ MOST_SOURCES
  pub tacs_sources : length p.tacs_sources ≤ MOST_CONTROL_CARDS
  pub blocks : length p.blocks ≤ MOST_CONTROL_CARDS
  pub extras : length p.extras ≤ MOST_CONTROL_CARDS
  pub channels : length p.channels ≤ MOST_CHANNELS
  pub steps : p.run.steps ≤ MOST_STEPS
  pub stored : length p.channels * samples_of p.run ≤ MOST_STORED_VALUES
  pub history : history_values_of p ≤ MOST_HISTORY_VALUES
