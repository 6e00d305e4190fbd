-- Beside `Currents`: what values hold for their proofs, and what premises say. No clause of the program reaches it.
use Rattle.emtp_case.specs.RowOrder.{Rows}
use Rattle.emtp_case.specs.declared.switch.Switch.{Switch}
use Rattle.emtp_case.specs.declared.switch.SwitchState.{SwitchState}
use Rattle.emtp_case.specs.Sums.{sum_below}
use Rattle.emtp_fix.specs.Items.{item}
use Rattle.emtp_fix.specs.declared.limit.TheConstants.{LARGEST_VALUE}
use Rattle.emtp_switch.specs.Groups.{from_at, labels_of, root_of, to_at}
use Rattle.std.specs.Prelude.{◌≡◌, ◌≢◌, ◌<◌, ◌≤◌, ◌==◌, ◌+ℤ◌, ◌-ℤ◌, if◌then◌else◌, Bool, List, length, pos, slice_index, unsigned_abs, ℕ, ℤ}
use Rattle.emtp_switch.specs.Currents.{leaving_side}

-- the part of a current from one end to the other that leaves a side, on which each end is or isn't
abbrev pub leaving_by : Bool → Bool → ℤ → ℤ
leaving_by from_in to_in i = (if from_in then i else pos 0) -ℤ (if to_in then i else pos 0)

-- the current that leaves a node through all switches
abbrev pub through_switches : List Switch → List ℤ → ℕ → ℤ
through_switches switches currents node =
    sum_below (length switches) (λ s. leaving_by (from_at switches s == node) (to_at switches s == node) (item currents s))

-- At each node but the roots, what leaves it through branches and what leaves it through switches cancel. A root with a
-- known voltage takes what is left of its group; one without has its row to make it 0.
abbrev pub Balances : List Switch → Rows → List SwitchState → List ℤ → List ℤ → Type 0
Balances switches rows states leaving currents =
    (row : ℕ) → row < length rows.nodes
    → slice_index rows.nodes row ≢ root_of rows (labels_of switches rows states) (slice_index rows.nodes row)
    → item leaving row +ℤ through_switches switches currents (slice_index rows.nodes row) ≡ pos 0

-- at a root that is a node, what leaves it through branches and switches is what leaves its whole group through branches
abbrev pub RootsBalance : List Switch → Rows → List SwitchState → List ℤ → List ℤ → Type 0
RootsBalance switches rows states leaving currents =
    (row : ℕ) → row < length rows.nodes
    → slice_index rows.nodes row ≡ root_of rows (labels_of switches rows states) (slice_index rows.nodes row)
    → item leaving row +ℤ through_switches switches currents (slice_index rows.nodes row)
    ≡ leaving_side rows (labels_of switches rows states)
    (slice_index (labels_of switches rows states) (slice_index rows.nodes row)) leaving

-- the first current that exceeds its limit
pub record IsFirstBeyond (currents : List ℤ) (s : ℕ) : Type 0 where
  pub within : s < length currents
  pub is : LARGEST_VALUE < unsigned_abs (item currents s)
  pub earlier : (k : ℕ) → k < s → unsigned_abs (item currents k) ≤ LARGEST_VALUE
