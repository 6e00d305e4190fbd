-- The listing of a case: a line for the case, one for its run, and one or some for each record.
use Rattle.std.specs.Prelude.{◌*◌, ◌++◌, ◌-◌, ◌∷◌, [], List, codes, count_by, length, map, ℕ}
use Rattle.emtp_case.specs.Channel.{is_status}
use Rattle.emtp_case.specs.HistoryValues.{history_values_of}
use Rattle.emtp_case.specs.RunData.{samples_of, time_of}
use Rattle.emtp_case.specs.declared.case.Parts.{Parts}
use Rattle.emtp_case.specs.declared.run_data.RunData.{RunData}
use Rattle.emtp_listing.specs.ChannelLines.{channel_line}
use Rattle.emtp_listing.specs.ControlLines.{block_lines, extra_lines, tacs_source_line}
use Rattle.emtp_listing.specs.Entry.{count_entry, limited_entry, number_entry, word_entry}
use Rattle.emtp_listing.specs.Lines.{all_separated, grouped, head_text, lines_text, numbered}
use Rattle.emtp_listing.specs.NetworkLines.{branch_group, source_line, switch_line, trio_line}
use Rattle.emtp_case.specs.declared.limit.TheConstants.{MOST_BRANCHES, MOST_CHANNELS, MOST_CONTROL_CARDS, MOST_HISTORY_VALUES, MOST_NODES, MOST_SOURCES, MOST_STEPS, MOST_STORED_VALUES, MOST_SWITCHES}

-- ---- the case as a whole

-- How many records of each kind there are, beside what there may be at most: so each line below is known by its place. Of
-- variables and three-phase lines other counts set the limit.
abbrev pub case_line : Parts → List ℕ
case_line p = codes "case" ++ all_separated
    (limited_entry (codes "nodes") MOST_NODES (length p.nodes)
    ∷ count_entry (codes "variables") (length p.vars)
    ∷ limited_entry (codes "branches") MOST_BRANCHES (length p.branches)
    ∷ count_entry (codes "three-phase lines") (length p.trios)
    ∷ limited_entry (codes "switches") MOST_SWITCHES (length p.switches)
    ∷ limited_entry (codes "sources") MOST_SOURCES (length p.sources)
    ∷ limited_entry (codes "control sources") MOST_CONTROL_CARDS (length p.tacs_sources)
    ∷ limited_entry (codes "blocks") MOST_CONTROL_CARDS (length p.blocks)
    ∷ limited_entry (codes "supplemental cards") MOST_CONTROL_CARDS (length p.extras)
    ∷ limited_entry (codes "channels") MOST_CHANNELS (length p.channels)
    ∷ [])

abbrev pub run_line : RunData → List ℕ
run_line run = codes "run" ++ all_separated
    (number_entry (codes "DELTAT") 12 (codes "s") run.dt
    ∷ limited_entry (codes "steps") MOST_STEPS run.steps
    ∷ count_entry (codes "IPLOT") run.every
    ∷ number_entry (codes "tolerance") 9 (codes "A") run.tolerance
    ∷ [])

-- what a whole run leaves: the time of its last step, its samples, and how many values these are; and how many past values lines
-- and devices need
abbrev pub record_line : Parts → List ℕ
record_line p = codes "record" ++ all_separated
    (number_entry (codes "end") 12 (codes "s") (time_of p.run p.run.steps)
    ∷ count_entry (codes "samples") (samples_of p.run)
    ∷ count_entry (codes "analog channels") (length p.channels - count_by is_status p.channels)
    ∷ count_entry (codes "status channels") (count_by is_status p.channels)
    ∷ limited_entry (codes "values") MOST_STORED_VALUES (length p.channels * samples_of p.run)
    ∷ limited_entry (codes "history values") MOST_HISTORY_VALUES (history_values_of p)
    ∷ [])

abbrev pub name_line : List ℕ → ℕ → List ℕ → List ℕ
name_line word number name = head_text word number ++ all_separated (word_entry (codes "name") name ∷ [])

-- ---- the whole

abbrev pub control_part : Parts → List (List ℕ)
control_part p =
    map (tacs_source_line p.nodes p.vars) p.tacs_sources
    ++ (grouped (block_lines p.vars) p.blocks
    ++ (grouped (extra_lines p.vars p.points) p.extras ++ numbered (channel_line p) 1 p.channels))

abbrev pub network_lines : Parts → List (List ℕ)
network_lines p =
    grouped (branch_group p.nodes p.points) p.branches
    ++ (map trio_line p.trios ++ (map (switch_line p.nodes p.vars) p.switches ++ map (source_line p.nodes p.vars) p.sources))

abbrev pub listed_lines : Parts → List (List ℕ)
listed_lines p =
    case_line p ∷ run_line p.run ∷ record_line p
    ∷ (numbered (name_line (codes "node")) 1 p.nodes
    ++ (numbered (name_line (codes "variable")) 0 p.vars ++ (network_lines p ++ control_part p)))

unfoldable pub listing : Parts → List ℕ
listing p = lines_text (listed_lines p)
