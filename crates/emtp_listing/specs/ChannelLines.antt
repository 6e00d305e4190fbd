-- The lines of the channels of the record.
use Rattle.std.specs.Prelude.{◌++◌, ◌-◌, ◌∷◌, [], Bool, false, true, List, codes, count_by, take, ℕ}
use Rattle.emtp_case.specs.Channel.{is_status}
use Rattle.emtp_case.specs.ChannelName.{text_of}
use Rattle.emtp_case.specs.declared.case.Parts.{Parts}
use Rattle.emtp_case.specs.declared.channel.Channel.{Channel}
use Rattle.emtp_case.specs.declared.channel.Channel.TheVariants.{BranchCurrent, BranchVoltage, SwitchCurrent as CurrentChannel, NodeVoltage as NodeChannel, Tacs as OfTacs, Status, SwitchVoltage}
use Rattle.emtp_listing.specs.Entry.{count_entry, node_entry, place_entry, variable_entry, word_entry}
use Rattle.emtp_listing.specs.Lines.{all_separated, head_text}

-- what is measured
abbrev pub measured_word : Channel → List ℕ
measured_word (NodeChannel node) = codes "node voltage"
measured_word (BranchCurrent b) = codes "branch current"
measured_word (BranchVoltage b) = codes "branch voltage"
measured_word (CurrentChannel s) = codes "switch current"
measured_word (SwitchVoltage s) = codes "switch voltage"
measured_word (OfTacs v) = codes "variable of the control"
measured_word (Status s) = codes "switch state"

-- and where
abbrev pub measured_entry : List (List ℕ) → List (List ℕ) → Channel → List ℕ
measured_entry nodes vars (NodeChannel node) = node_entry (codes "node") nodes node
measured_entry nodes vars (BranchCurrent b) = place_entry (codes "branch") b
measured_entry nodes vars (BranchVoltage b) = place_entry (codes "branch") b
measured_entry nodes vars (CurrentChannel s) = place_entry (codes "switch") s
measured_entry nodes vars (SwitchVoltage s) = place_entry (codes "switch") s
measured_entry nodes vars (OfTacs v) = variable_entry (codes "variable") vars v
measured_entry nodes vars (Status s) = place_entry (codes "switch") s

-- its number in the record, where analog channels and states are counted apart, by how many of the first channels are states
abbrev pub record_entry : Bool → ℕ → ℕ → List ℕ
record_entry false number states = count_entry (codes "analog channel") (number - states)
record_entry true number states = count_entry (codes "status channel") states

-- how many of the first channels are states
abbrev pub states_upto : List Channel → ℕ → ℕ
states_upto channels number = count_by is_status (take number channels)

-- a channel by its number, what it measures and where, its name in the record, and its number there
abbrev pub channel_line : Parts → ℕ → Channel → List ℕ
channel_line p number channel =
    head_text (codes "channel") number
    ++ all_separated (measured_word channel ∷ measured_entry p.nodes p.vars channel
    ∷ word_entry (codes "name") (text_of p channel)
    ∷ record_entry (is_status channel) number (states_upto p.channels number) ∷ [])
