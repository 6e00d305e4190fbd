-- The currents of the switches.
use Rattle.emtp_case.specs.RowOrder.{Rows}
use Rattle.emtp_case.specs.declared.switch.Switch.{Switch}
use Rattle.emtp_case.specs.declared.switch.SwitchState.{SwitchState}
use Rattle.emtp_case.specs.Sums.{sum_below}
use Rattle.emtp_fix.specs.Items.{item}
use Rattle.emtp_switch.specs.Groups.{alone, bridges_of, from_at, groups, root_of, to_at}
use Rattle.std.specs.List.{filter, list_any, range_with_len}
use Rattle.std.specs.Prelude.{◌==◌, if◌then◌else◌, Bool, List, length, map, neg_ℤ, not, pos, slice_index, ℕ, ℤ}

-- what leaves the nodes that have a label, where what leaves each node goes by row
abbrev pub leaving_side : Rows → List ℕ → ℕ → List ℤ → ℤ
leaving_side rows labels l leaving =
    sum_below (length rows.nodes)
    (λ row. if slice_index labels (slice_index rows.nodes row) == l then item leaving row else pos 0)

-- the current from one end to the other, by labels that part the ends: what leaves the side without the root
abbrev pub crossing : Rows → List ℕ → ℕ → ℕ → ℕ → List ℤ → ℤ
crossing rows labels root «from» to leaving =
    if slice_index labels «from» == slice_index labels root
    then leaving_side rows labels (slice_index labels to) leaving
    else neg_ℤ (leaving_side rows labels (slice_index labels «from») leaving)

-- the bridges but one
abbrev pub others : ℕ → List ℕ → List ℕ
others b es = filter (λ s. not (s == b)) es

-- the current of a bridge b among the bridges es: it crosses between the two sides that the others alone make
abbrev pub bridge_current : List Switch → Rows → List ℕ → List ℤ → ℕ → ℤ
bridge_current switches rows es leaving b =
    crossing rows
    (groups switches (alone (length rows.nodes)) (others b es))
    (root_of rows (groups switches (alone (length rows.nodes)) es) (from_at switches b))
    (from_at switches b)
    (to_at switches b)
    leaving

-- a number is in a list
abbrev pub contains : List ℕ → ℕ → Bool
contains es s = list_any (λ e. e == s) es

-- the currents of all switches; an open or slack one has none
abbrev pub currents_of : List Switch → Rows → List SwitchState → List ℤ → List ℤ
currents_of switches rows states leaving =
    map
    (λ s. if contains (bridges_of switches rows states) s
    then bridge_current switches rows (bridges_of switches rows states) leaving s else pos 0)
    (range_with_len 0 (length switches))
