-- What is the same in all steps: the case, the order of its rows, and tables of its nodes.
use Rattle.emtp_case.specs.RowOrder.{Rows}
use Rattle.emtp_case.specs.held.RowOrder.{IsRowOrder}
use Rattle.emtp_case.specs.declared.case.Parts.{Parts}
use Rattle.emtp_case.specs.declared.switch.Switch.{Switch}
use Rattle.emtp_case.specs.declared.switch.SwitchState.{SwitchState}
use Rattle.emtp_switch.specs.Groups.{alone, by_rank, closed_switches, first_tied, known_nodes, knows}
use Rattle.emtp_switch.specs.held.Groups.{EndWithin}
use Rattle.emtp_switch.specs.held.Tallies.{ends_of}
use Rattle.emtp_switch.specs.held.Tree.{is_reached}
use Rattle.emtp_switch.specs.declared.plan.Plan.{Plan}
use Rattle.std.specs.List.{All, range_with_len}
use Rattle.std.specs.Prelude.{◌≡◌, ◌+◌, ◌<◌, ◌≤◌, Bool, List, Option, length, map, slice_index, ℕ}

-- a label is marked where its group holds one of some nodes
abbrev pub MarksKnown : List ℕ → List ℕ → List Bool → Type 0
MarksKnown known labels marks =
    (x : ℕ) → x < length labels → is_reached marks (slice_index labels x) ≡ knows known labels (slice_index labels x)

-- the first switch that joins two known voltages, whatever nodes are known that the marks stand for
abbrev pub WatchesTied : List Switch → List SwitchState → List ℕ → List Bool → Option ℕ → Type 0
WatchesTied switches states labels marks tied =
    (known : List ℕ) → All (λ k. k < length labels) known → MarksKnown known labels marks
    → tied ≡ first_tied switches known labels (closed_switches states)

pub record IsPlan (p : Parts) (rows : Rows) (plan : Plan) : Type 0 where
  pub order : IsRowOrder p rows
  pub same_nodes : length rows.nodes ≡ length p.nodes
  pub nodes_within : (row : ℕ) → row < length rows.nodes → slice_index rows.nodes row ≤ length rows.nodes
  pub ends_within : EndWithin p.switches (length rows.nodes + 1)
  pub ranked : plan.ranked.items ≡ by_rank rows
  pub known : MarksKnown (known_nodes rows) (alone (length rows.nodes)) plan.known.items
  pub known_size : length plan.known.items ≡ length rows.nodes + 1
  pub ends : plan.ends.items ≡ map (ends_of p) (range_with_len 0 (length rows.nodes + 1))
