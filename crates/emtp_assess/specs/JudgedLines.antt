-- The lines that tell what the records of a run say of its nonlinear resistors and reactors.
use Rattle.std.specs.Prelude.{◌∷◌, [], ◌++◌, Bool, true, false, List, Option, Some, None, codes, decimal, if◌then◌else◌, min, nat_lt, pos, ℕ, ℤ}
use Rattle.emtp_assess.specs.Fronts.{branch_front, front}
use Rattle.emtp_assess.specs.declared.texts.TheConstants.{AMPERE, BY, CHARACTERISTIC, CURRENT, CURRENT_OFF, CURRENT_ON, FALSE_CURRENT, FALSE_VOLTAGE, FARTHEST, FLUX, OFF_IN_SAMPLES, OFF_IN_STEPS, STEP, VOLT, VOLTAGE, VOLTAGE_OFF, VOLTAGE_ON, WEBER}
use Rattle.emtp_case.specs.declared.branch.Branch.TheVariants.{Pseudo as OfPseudo}
use Rattle.emtp_case.specs.declared.branch.Pseudo.{Pseudo}
use Rattle.emtp_fix.specs.Decimal.{fixed_text}
use Rattle.emtp_fix.specs.declared.limit.TheConstants.{LARGEST_VALUE}
use Rattle.emtp_machine.specs.Channels.{within_range}
use Rattle.emtp_worth.specs.declared.found.Found.{Found}
use Rattle.emtp_worth.specs.declared.found.Reading.{Reading}
use Rattle.emtp_worth.specs.declared.judged.Judged.{Judged}

-- ---- the pieces of a line

-- `, name=count`
unfoldable pub count_text : List ℕ → ℕ → List ℕ
count_text name count = codes ", " ++ name ++ codes "=" ++ decimal count

-- `, name=value unit`, in parts of 10^-places
unfoldable pub quantity : List ℕ → ℕ → List ℕ → ℤ → List ℕ
quantity name places unit value = codes ", " ++ name ++ codes "=" ++ fixed_text value places ++ unit

-- what a characteristic is over: a voltage, of a reactor a flux
abbrev pub place_text : Bool → List ℕ → ℤ → List ℕ
place_text true name value = quantity name 12 WEBER.now value
place_text false name value = quantity name 9 VOLT.now value

-- a magnitude held to 10^18
abbrev pub capped : ℕ → ℤ
capped n = pos (min n LARGEST_VALUE)

-- ---- words by the kind of a branch

abbrev pub place_word : Bool → List ℕ
place_word true = FLUX.now
place_word false = VOLTAGE.now

abbrev pub peak_word : Bool → List ℕ
peak_word true = CURRENT_OFF.now
peak_word false = VOLTAGE_OFF.now

abbrev pub false_word : Bool → List ℕ
false_word true = FALSE_CURRENT.now
false_word false = FALSE_VOLTAGE.now

-- the greatest magnitude of the points on the characteristic: of voltages, of a reactor of currents
abbrev pub on_text : Bool → ℤ → List ℕ
on_text true value = quantity CURRENT_ON.now 9 AMPERE.now value
on_text false value = quantity VOLTAGE_ON.now 9 VOLT.now value

-- ---- the lines of a branch

-- a point, with what the characteristic has at its current
unfoldable pub point_text : Bool → Reading → List ℕ
point_text reactor r =
    count_text STEP.now r.step ++ quantity CURRENT.now 9 AMPERE.now r.current ++ place_text reactor (place_word reactor) r.value
    ++ place_text reactor CHARACTERISTIC.now (within_range r.due)

-- how often its points lay off the characteristic, and the greatest of those that lay on it
unfoldable pub branch_line : List (List ℕ) → Judged → List ℕ
branch_line nodes j =
    branch_front nodes (OfPseudo j.card) ++ count_text OFF_IN_STEPS.now j.found.steps
    ++ count_text OFF_IN_SAMPLES.now j.found.samples ++ on_text j.card.reactor (capped j.found.greatest) ++ codes "\n"

-- the point off it with the greatest voltage, of a reactor with the greatest current
unfoldable pub peak_line : ℕ → Bool → Reading → List ℕ
peak_line line reactor r = front line (peak_word reactor) ++ point_text reactor r ++ codes "\n"

abbrev pub peak_text : ℕ → Bool → Option Reading → List ℕ
peak_text line reactor None = []
peak_text line reactor (Some r) = peak_line line reactor r

-- the point that lies farthest off it
unfoldable pub farthest_line : ℕ → Bool → ℕ → Reading → List ℕ
farthest_line line reactor excess r =
    front line FARTHEST.now ++ place_text reactor BY.now (capped excess) ++ point_text reactor r ++ codes "\n"

abbrev pub farthest_text : ℕ → Bool → ℕ → Option Reading → List ℕ
farthest_text line reactor excess None = []
farthest_text line reactor excess (Some r) = farthest_line line reactor excess r

-- who looks for warnings alone is told the branch, not its line only
unfoldable pub false_line : List (List ℕ) → Pseudo → List ℕ
false_line nodes x = codes "warning, " ++ branch_front nodes (OfPseudo x) ++ codes ", " ++ false_word x.reactor ++ codes "\n"

-- the record has a peak that isn't on the characteristic
abbrev pub false_text : List (List ℕ) → Pseudo → Found → List ℕ
false_text nodes x found = if nat_lt found.greatest found.peak then false_line nodes x else []

unfoldable pub judged_text : List (List ℕ) → Judged → List ℕ
judged_text nodes j =
    branch_line nodes j ++ peak_text j.card.line j.card.reactor j.found.highest
    ++ farthest_text j.card.line j.card.reactor j.found.excess j.found.worst ++ false_text nodes j.card j.found

-- of each branch, by the names of the case's nodes
abbrev pub judged_lines : List (List ℕ) → List Judged → List ℕ
judged_lines nodes [] = []
judged_lines nodes (j ∷ js) = judged_text nodes j ++ judged_lines nodes js
