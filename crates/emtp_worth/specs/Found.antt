-- What the records of a run say of a pseudo-nonlinear branch: how often and how far its point lay off its characteristic.
use Rattle.std.specs.Prelude.{◌+◌, ◌%◌, ◌==◌, ◌∷◌, [], ◌-ℤ◌, if◌then◌else◌, Bool, List, None, Some, length, max, nat_lt, unsigned_abs, ℕ, ℤ}
use Rattle.emtp_case.specs.Branch.{points_of}
use Rattle.emtp_case.specs.StepRecord.{StepRecord, pseudo_at, voltage_at}
use Rattle.emtp_case.specs.declared.branch.Point.{Point}
use Rattle.emtp_case.specs.declared.branch.Pseudo.{Pseudo}
use Rattle.emtp_case.specs.declared.branch.PseudoState.{PseudoState}
use Rattle.emtp_case.specs.declared.case.Parts.{Parts}
use Rattle.emtp_pseudo.specs.Step.{place_of}
use Rattle.emtp_worth.specs.Characteristic.{due, excess, is_off}
use Rattle.emtp_worth.specs.declared.found.Found.{Found}
use Rattle.emtp_worth.specs.declared.found.Reading.{Reading}

-- ---- a record

-- a branch in a step, at a voltage and in a state, where its characteristic has this
abbrev pub reading : Bool → ℕ → ℤ → PseudoState → ℤ → Reading
reading reactor step v state due = record {
  step = step;
  voltage = v;
  current = state.current;
  value = place_of reactor state.flux v;
  due = due;
  shown = if reactor then state.current else v;
}

abbrev pub reading_by : List Point → Pseudo → ℕ → ℤ → PseudoState → Reading
reading_by points x step v state = reading x.reactor step v state (due points state.current)

-- the same of the record of that step
abbrev pub reading_in : List Point → Pseudo → ℕ → ℕ → StepRecord → Reading
reading_in points x b step r = reading_by points x step (voltage_at x.from r -ℤ voltage_at x.to r) (pseudo_at b r)

-- ---- what is found

abbrev pub nothing : Found
nothing = record { steps = 0; samples = 0; excess = 0; worst = None; peak = 0; highest = None; greatest = 0 }

-- on the characteristic: the greatest voltage there, of a reactor the greatest current
abbrev pub with_on : Found → Reading → Found
with_on found r = record found { greatest = max found.greatest (unsigned_abs r.shown) }

-- off it: a step more, a sample more where the step is one, the first of the greatest excess and of the greatest voltage or
-- current
abbrev pub with_off : ℕ → Found → Reading → ℕ → Found
with_off every found r e = record found {
  steps = found.steps + 1;
  samples = found.samples + (if r.step % every == 0 then 1 else 0);
  excess = max found.excess e;
  worst = if nat_lt found.excess e then Some r else found.worst;
  peak = max found.peak (unsigned_abs r.shown);
  highest = if nat_lt found.peak (unsigned_abs r.shown) then Some r else found.highest;
}

abbrev pub with_excess : List Point → ℕ → Found → Reading → ℕ → Found
with_excess points every found r e = if is_off points e then with_off every found r e else with_on found r

unfoldable pub with : List Point → ℕ → Found → Reading → Found
with points every found r = with_excess points every found r (excess r.due r.value)

-- the record of a step more
abbrev pub with_record : List Point → ℕ → Pseudo → ℕ → ℕ → StepRecord → Found → Found
with_record points every x b step r found = with points every found (reading_in points x b step r)

-- all records of a run, newest first
unfoldable pub found_in : Parts → Pseudo → ℕ → List StepRecord → Found
found_in case x b [] = nothing
found_in case x b (r ∷ past) =
    with_record (points_of case.points x.first x.count) case.run.every x b (length past) r (found_in case x b past)
