-- The nodes that branches and switches are named by.
use Rattle.std.specs.Prelude.{◌==◌, ℕ, if◌then◌else◌, map, slice_index}
use Rattle.emtp_case.specs.Branch.{from_of, to_of}
use Rattle.emtp_case.specs.declared.branch.Branch.{Branch}
use Rattle.emtp_case.specs.declared.case.Parts.{Parts}
use Rattle.emtp_case.specs.declared.switch.Switch.{Switch}

-- a branch or a switch is named by its `from`, or by its `to` where `from` is ground
abbrev pub named_end : ℕ → ℕ → ℕ
named_end «from» to = if «from» == 0 then to else «from»

abbrev pub node_of_branch : Parts → ℕ → ℕ
node_of_branch case b = slice_index (map (λ (x : Branch). named_end (from_of x) (to_of x)) case.branches) b

abbrev pub node_of_switch : Parts → ℕ → ℕ
node_of_switch case s = slice_index (map (λ (x : Switch). named_end x.from x.to) case.switches) s
