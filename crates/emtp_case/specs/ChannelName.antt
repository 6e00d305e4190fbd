-- The names of channels.
use Rattle.emtp_case.specs.Branch.{from_of, to_of}
use Rattle.emtp_case.specs.declared.case.Parts.{Parts}
use Rattle.emtp_case.specs.declared.channel.Channel.{Channel}
use Rattle.emtp_case.specs.declared.channel.Channel.TheVariants.{BranchCurrent, BranchVoltage, SwitchCurrent as CurrentChannel, NodeVoltage as NodeChannel, Tacs as OfTacs, Status, SwitchVoltage}
use Rattle.emtp_case.specs.declared.switch.Switch.{Switch}
use Rattle.std.specs.Prelude.{◌++◌, [], List, codes, map, slice_index_or, suc, zero, ℕ}

-- the name of a node; ground is 0
abbrev pub name_of_node : Parts → ℕ → List ℕ
name_of_node p zero = codes "0"
name_of_node p (suc at) = slice_index_or p.nodes at []

abbrev pub name_of_var : Parts → ℕ → List ℕ
name_of_var p var = slice_index_or p.vars var []

-- both ends, joined by a dash
abbrev pub name_of_ends : Parts → ℕ → ℕ → List ℕ
name_of_ends p «from» to = name_of_node p «from» ++ codes "-" ++ name_of_node p to

abbrev pub name_of_branch : Parts → ℕ → List ℕ
name_of_branch p b = name_of_ends p (slice_index_or (map from_of p.branches) b 0) (slice_index_or (map to_of p.branches) b 0)

abbrev pub name_of_switch : Parts → ℕ → List ℕ
name_of_switch p s =
    name_of_ends p (slice_index_or (map (λ (x : Switch). x.from) p.switches) s 0)
    (slice_index_or (map (λ (x : Switch). x.to) p.switches) s 0)

-- a letter for the kind, a blank, and what is measured
abbrev pub text_of : Parts → Channel → List ℕ
text_of p (NodeChannel n) = codes "V " ++ name_of_node p n
text_of p (BranchCurrent b) = codes "I " ++ name_of_branch p b
text_of p (BranchVoltage b) = codes "U " ++ name_of_branch p b
text_of p (CurrentChannel s) = codes "I " ++ name_of_switch p s
text_of p (SwitchVoltage s) = codes "U " ++ name_of_switch p s
text_of p (OfTacs v) = codes "T " ++ name_of_var p v
text_of p (Status s) = codes "S " ++ name_of_switch p s

abbrev pub name_of_channel : Parts → ℕ → List ℕ
name_of_channel p channel = slice_index_or (map (text_of p) p.channels) channel []
