-- How breakers open, how valves go, and which switches carry no current.
use Rattle.std.specs.Prelude.{◌≡◌, ◌⊎◌, ◌↔◌, ◌<◌, ◌≤◌, ◌<ℤ◌, ◌≤ℤ◌, ◌-ℤ◌, ◌∷◌, [], ℕ, ℤ, pos, Bool, false, true, List, Option, Some, length, unsigned_abs}
use Rattle.emtp_case.specs.RowOrder.{order_of}
use Rattle.emtp_case.specs.RunData.{time_of}
use Rattle.emtp_case.specs.StepRecord.{StepRecord, is_closed, record_back, switch_current_at, switch_state_at, voltage_at}
use Rattle.emtp_case.specs.declared.case.Parts.{Parts}
use Rattle.emtp_case.specs.declared.switch.SwitchKind.TheVariants.{Time, Valve}
use Rattle.emtp_case.specs.declared.switch.SwitchState.{SwitchState}
use Rattle.emtp_case.specs.declared.switch.SwitchState.TheVariants.{Closed, Opened}
use Rattle.emtp_elim.specs.Matrix.{item}
use Rattle.emtp_switch.specs.Currents.{contains}
use Rattle.emtp_switch.specs.Groups.{bridges_of, is_closed_at, switch_at}
use Rattle.emtp_switch.specs.States.{is_on}

-- ---- breakers

abbrev pub HaveOppositeSigns : ℤ → ℤ → Type 0
HaveOppositeSigns a b = ((a <ℤ pos 0) × (pos 0 <ℤ b)) ⊎ ((pos 0 <ℤ a) × (b <ℤ pos 0))

-- a breaker may open at this time: its opening time has come, and its current in the last record is within its margin, or has
-- changed its sign since the record before
pub record MayOpen (open_at : Option ℤ) (time margin current before : ℤ) : Type 0 where
  pub opening : ℤ
  pub is : open_at ≡ Some opening
  pub due : opening ≤ℤ time
  pub near_zero : (unsigned_abs current ≤ unsigned_abs margin) ⊎ HaveOppositeSigns current before

-- each breaker that has opened in the last record of a run was closed before and might open
abbrev pub OpensBreakersRightly : Parts → List StepRecord → Type 0
OpensBreakersRightly case [] = Unit {0}
OpensBreakersRightly case (r ∷ []) = Unit {0}
OpensBreakersRightly case (r ∷ s ∷ past) =
    (k : ℕ) (close : ℤ) (open_at : Option ℤ) (margin : ℤ)
    → (switch_at case.switches k).kind ≡ Time close open_at margin → switch_state_at k s ≡ Closed
    → switch_state_at k r ≡ Opened
    → MayOpen open_at (time_of case.run (length (s ∷ past))) margin (switch_current_at k s)
    (switch_current_at k (record_back (s ∷ past) 1))

-- ---- valves

-- How a valve goes in a step after a record in which it has this voltage from its anode to its cathode, this current, and this
-- state, and in which its variable, if it has one, is above 0 or not. While it conducts, it goes on exactly where the current
-- isn't below the holding current; else it fires exactly where the voltage is above 0 and not below the ignition voltage, and
-- it is on.
pub record GoesByItsNumbers (ignition holding voltage current : ℤ) (on : Bool) (before now : SwitchState) : Type 0 where
  pub holds : is_closed before ≡ true → (now ≡ Closed) ↔ (holding ≤ℤ current)
  pub fires : is_closed before ≡ false → (now ≡ Closed) ↔ ((pos 0 <ℤ voltage) × (ignition ≤ℤ voltage) × (on ≡ true))
  pub opens : (now ≡ Closed) ⊎ (now ≡ Opened)

-- a switch that is this valve goes by its numbers, from one state after a record to the next
abbrev pub GoesRightly : Parts → ℕ → StepRecord → SwitchState → Type 0
GoesRightly case k r now =
    (ignition holding : ℤ) (control : Option ℕ) → (switch_at case.switches k).kind ≡ Valve ignition holding control
    → GoesByItsNumbers ignition holding (voltage_at (switch_at case.switches k).from r -ℤ voltage_at (switch_at case.switches k).to r)
    (switch_current_at k r) (is_on control r) (switch_state_at k r) now

-- each valve has in the last record of a run the state to which it goes after the one before it
abbrev pub GoValvesRightly : Parts → List StepRecord → Type 0
GoValvesRightly case [] = Unit {0}
GoValvesRightly case (r ∷ []) = Unit {0}
GoValvesRightly case (r ∷ s ∷ past) = (k : ℕ) → k < length case.switches → GoesRightly case k s (switch_state_at k r)

-- ---- switches without a current

-- an open switch has no current, and a slack one neither: it closes a loop of closed switches, and is no bridge
pub record AreIdleSwitchesDead (case : Parts) (states : List SwitchState) (currents : List ℤ) : Type 0 where
  pub opened : (s : ℕ) → is_closed_at states s ≡ false → item currents s ≡ pos 0
  pub slack : (s : ℕ) → contains (bridges_of case.switches (order_of case) states) s ≡ false → item currents s ≡ pos 0
