-- What deciding leaves.
use Rattle.std.proofs.Common.{◌≡◌, ℕ, ◌∷◌, ℤ, List, [], refl, ap, sym, ◌∙◌}
use Rattle.emtp_case.specs.StepRecord.{StepRecord, latest, record_back}
use Rattle.emtp_case.specs.declared.case.Parts.{Parts}
use Rattle.emtp_case.specs.declared.switch.SwitchState.{SwitchState}
use Rattle.emtp_fix.specs.Items.{item}
use Rattle.emtp_switch.specs.States.{next_states}
use Rattle.emtp_switch.specs.held.Switching.{AreKept, AreLatest}

back_one : (r : StepRecord) (H : List StepRecord) → latest H ≡ record_back (r ∷ H) 1
back_one r [] = refl
back_one r (h ∷ H) = refl

-- with the next record in front, what is kept is of it and of the record that was the last one
pub kept_next : (p : Parts) (H : List StepRecord) (r : StepRecord) (step : ℕ) (voltages currents values after : List ℤ) (states : List SwitchState) → AreLatest step voltages currents values H → states ≡ next_states p H
    → r.switch_states ≡ next_states p H → after ≡ currents → AreKept states after (r ∷ H)
kept_next p H r step voltages currents values after states is states_are r_is after_is = record {
  states_are = states_are ∙ sym r_is;
  before_are = λ s inside. ap (λ l. item l s) (after_is ∙ is.currents_are) ∙ ap (λ (x : StepRecord). item x.switch_currents s) (back_one r H);
}
