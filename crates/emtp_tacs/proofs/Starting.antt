-- The start of a step, before the first supplemental card.
use Rattle.std.proofs.Common.{◌≡◌, ◌∙◌, ◌++◌, sym, ap, subst, refl, ℕ, ℤ, drop, List, length, true, Result, Ok, Err}
use Rattle.emtp_case.specs.StepRecord.{StepRecord, latest}
use Rattle.emtp_case.specs.declared.case.Parts.{Parts}
use Rattle.emtp_devices.specs.held.Devices.{HeldDevices, IsDeviceAt, StandsAt, StandsFor as DevicesStandFor}
use Rattle.emtp_tacs.specs.Part.{standing_values}
use Rattle.emtp_tacs.specs.held.Stages.{IsSoFar, past_of}
use Rattle.emtp_fix.specs.Chain.{◌>>=◌}
use Rattle.emtp_tacs.specs.Step.{Measured, SoFar, extras, known_before, sources, starting}
use Rattle.emtp_tacs.specs.declared.fault.TacsFault.{TacsFault}
use Rattle.emtp_tacs.proofs.Folds.{none_done}

starting_is : (case : Parts) (H : List StepRecord) (step : ℕ) (old new : List ℤ) → step ≡ length H → old ≡ (latest H).values → new ≡ standing_values case.run step ++ drop 6 old
    → starting case H ≡ record { values = new; devices = (latest H).devices }
starting_is case H step old new long old_is new_is =
    ap (λ (vs : List ℤ). record { values = vs; devices = (latest H).devices })
    (ap (λ n. standing_values case.run n ++ drop 6 (latest H).values) (sym long) ∙ ap (λ vs. standing_values case.run step ++ drop 6 vs) (sym old_is) ∙ sym new_is)

-- the sources start from the last record and the standing values
sources_are : (case : Parts) (H : List StepRecord) (m : Measured) (step : ℕ) (old new : List ℤ) (d : Result SoFar TacsFault) → step ≡ length H → old ≡ (latest H).values → new ≡ standing_values case.run step ++ drop 6 old
    → sources case step m (record { values = new; devices = (latest H).devices }) ≡ d → sources case (length H) m (starting case H) ≡ d
sources_are case H m step old new d long old_is new_is is =
    ap (λ n. sources case n m (starting case H)) (sym long) ∙ ap (sources case step m) (starting_is case H step old new long old_is new_is) ∙ is

pub known_is : (case : Parts) (H : List StepRecord) (m : Measured) (step : ℕ) (old new : List ℤ) (s : SoFar) → step ≡ length H → old ≡ (latest H).values → new ≡ standing_values case.run step ++ drop 6 old
    → sources case step m (record { values = new; devices = (latest H).devices }) ≡ Ok s → known_before case H m ≡ extras case H true s
known_is case H m step old new s long old_is new_is is = ap (λ d. d >>= extras case H true) (sources_are case H m step old new (Ok s) long old_is new_is is)

pub known_fails : (case : Parts) (H : List StepRecord) (m : Measured) (step : ℕ) (old new : List ℤ) (fault : TacsFault) → step ≡ length H → old ≡ (latest H).values → new ≡ standing_values case.run step ++ drop 6 old
    → sources case step m (record { values = new; devices = (latest H).devices }) ≡ Err fault → known_before case H m ≡ Err fault
known_fails case H m step old new fault long old_is new_is is = ap (λ d. d >>= extras case H true) (sources_are case H m step old new (Err fault) long old_is new_is is)

-- no device has moved yet
pub so_far_first : (case : Parts) (H : List StepRecord) (values : List ℤ) (held : HeldDevices) → held.case ≡ case → DevicesStandFor held H → length (latest H).devices ≡ length case.extras
    → IsSoFar case H true 0 values held (record { values = values; devices = (latest H).devices })
so_far_first case H values held same stands count = record {
  values_are = refl;
  count = count;
  devices = λ at x is. subst (λ b. StandsAt held at (past_of b (latest H).devices H at)) (sym (none_done case at)) (stands at x (subst (λ (p : Parts). IsDeviceAt p at x) (sym same) is));
}
