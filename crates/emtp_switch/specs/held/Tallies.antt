-- What ends at the nodes of each group, as the code counts it.
use Rattle.emtp_case.specs.RowOrder.{Rows, touches_switch}
use Rattle.emtp_case.specs.declared.case.Parts.{Parts}
use Rattle.emtp_case.specs.declared.row_kind.RowKind.{RowKind}
use Rattle.emtp_switch.specs.Kinds.{count_members, has_feed, has_member, kind_by}
use Rattle.emtp_switch.specs.declared.kinds.Ends.{Ends}
use Rattle.emtp_switch.specs.declared.kinds.Tally.{Tally}
use Rattle.std.specs.Prelude.{◌==◌, ◌&&◌, Bool, List, false, not, slice_index, slice_index_or, ℕ}

abbrev pub no_ends : Ends
no_ends = record { switch = false; feed = false }

-- what ends at a node
abbrev pub ends_of : Parts → ℕ → Ends
ends_of p node = record { switch = touches_switch p node; feed = has_feed p node }

abbrev pub ends_from : List Ends → ℕ → Ends
ends_from ends node = slice_index_or ends node no_ends

abbrev pub no_tally : Tally
no_tally = record { has_switch = false; has_feed = false; nodes = 0 }

abbrev pub tally_at : List Tally → ℕ → Tally
tally_at tallies l = slice_index_or tallies l no_tally

-- what ends at the nodes of the group with a label, and how many they are
abbrev pub tally_of : List ℕ → List ℕ → List Ends → ℕ → Tally
tally_of nodes labels ends l = record {
  has_switch = has_member nodes labels (λ node. (ends_from ends node).switch) l;
  has_feed = has_member nodes labels (λ node. (ends_from ends node).feed) l;
  nodes = count_members nodes labels l;
}

abbrev pub is_empty_tally : Tally → Bool
is_empty_tally t = t.has_switch && not t.has_feed

-- the kind of the row of a node, by the roots and tallies of all labels
abbrev pub kind_found : Rows → List ℕ → List ℕ → List Tally → ℕ → RowKind
kind_found rows labels roots tallies node =
    kind_by rows node
    (slice_index roots (slice_index labels node))
    (is_empty_tally (tally_at tallies (slice_index labels node)))
    ((tally_at tallies (slice_index labels node)).nodes == 1)
