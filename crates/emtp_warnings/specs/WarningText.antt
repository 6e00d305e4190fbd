-- The text of warnings, a line each.
use Rattle.std.specs.Prelude.{ℕ, ℤ, ◌+◌, ◌-◌, ◌++◌, ◌∷◌, [], List, Option, Some, None, codes, decimal, drop, max, slice_get, take}
use Rattle.emtp_card.specs.Field.{trimmed}
use Rattle.emtp_causes.specs.Legend.{field_name}
use Rattle.emtp_fix.specs.Decimal.{fixed_text}
use Rattle.emtp_walk.specs.declared.kind.Kind.{Kind}
use Rattle.emtp_walk.specs.declared.kind.LineReading.{LineReading}
use Rattle.emtp_warnings.specs.declared.finding.Finding.{Finding}
use Rattle.emtp_warnings.specs.declared.finding.Finding.TheVariants.{ActsAsWire, AfterEnd, AskedTwice, BareArrester, CaseAlone, Drifts, EarlyCosine, LateName, LateTravel, LoneNode, NeverActs, NoFrequency, NodeZero, NotRead, NumbersTouch, OpensFirst, OtherCapacitance, OtherResistance, ShortTravel, SideBySide, SmallCapacitance}
use Rattle.emtp_warnings.specs.declared.finding.Spot.{Spot}
use Rattle.emtp_warnings.specs.declared.finding.Spot.TheVariants.{Channel, Columns, Line}
use Rattle.emtp_warnings.specs.declared.finding.Warning.{Warning}
use Rattle.emtp_warnings.specs.declared.words.TheConstants.{ACTING_CAPACITANCE, ACTS_AS_WIRE, AFTER_END, ASKED_TWICE, BARE_ARRESTER, CASE_ALONE, CLEAN, DRIFT, DRIFTS, EARLY_COSINE, LATE_NAME, LATE_TRAVEL, LONE_NODE, MICROFARAD, MILLIHENRY, NEVER_ACTS, NODE_ZERO, NOT_READ, NO_FREQUENCY, NO_UNIT, NUMBERS_TOUCH, OHM, OPENS_FIRST, OTHER_CAPACITANCE, OTHER_RESISTANCE, SERIES_RESISTANCE, SHORT_TRAVEL, SIDE_BY_SIDE, SMALL_CAPACITANCE, WHOLE_RESISTANCE}

abbrev pub finding_text : Finding → List ℕ
finding_text NotRead = NOT_READ.now
finding_text (NumbersTouch first last) = NUMBERS_TOUCH.now
finding_text LateName = LATE_NAME.now
finding_text LoneNode = LONE_NODE.now
finding_text NodeZero = NODE_ZERO.now
finding_text CaseAlone = CASE_ALONE.now
finding_text NoFrequency = NO_FREQUENCY.now
finding_text ShortTravel = SHORT_TRAVEL.now
finding_text LateTravel = LATE_TRAVEL.now
finding_text SmallCapacitance = SMALL_CAPACITANCE.now
finding_text SideBySide = SIDE_BY_SIDE.now
finding_text AfterEnd = AFTER_END.now
finding_text EarlyCosine = EARLY_COSINE.now
finding_text NeverActs = NEVER_ACTS.now
finding_text OpensFirst = OPENS_FIRST.now
finding_text AskedTwice = ASKED_TWICE.now
finding_text (Drifts resistance drift clean) = DRIFTS.now
finding_text (OtherResistance acting) = OTHER_RESISTANCE.now
finding_text (OtherCapacitance acting) = OTHER_CAPACITANCE.now
finding_text ActsAsWire = ACTS_AS_WIRE.now
finding_text BareArrester = BARE_ARRESTER.now

unfoldable pub columns_text : ℕ → ℕ → ℕ → List ℕ
columns_text line first last = codes "line " ++ decimal line ++ codes ", columns " ++ decimal first ++ codes "-" ++ decimal last

abbrev pub spot_text : Spot → List ℕ
spot_text (Columns line first last) = columns_text line first last
spot_text (Line line) = codes "line " ++ decimal line
spot_text (Channel place) = codes "channel " ++ decimal place

-- what stands in columns, without the outer blanks
abbrev pub piece : List ℕ → ℕ → ℕ → List ℕ
piece line first last = trimmed (take (max last (max first 1) + 1 - max first 1) (drop (max first 1 - 1) line))

-- a number as it is read, behind the name of its field
unfoldable pub number_text : List ℕ → Kind → ℕ → ℕ → List ℕ
number_text line kind first last =
    field_name line kind (max first 1) (max last (max first 1)) ++ codes "=" ++ piece line first last

unfoldable pub pair_text : List ℕ → Kind → ℕ → ℕ → ℕ → ℕ → List ℕ
pair_text line kind at next first last =
    codes ": " ++ number_text line kind first at ++ codes ", " ++ number_text line kind next last

abbrev pub pair_of : Option (List ℕ) → Option LineReading → ℕ → ℕ → ℕ → ℕ → List ℕ
pair_of None read at next first last = []
pair_of (Some line) None at next first last = []
pair_of (Some line) (Some read) at next first last = pair_text line read.kind at next first last

-- two numbers that touch, as they are read, behind the names of their fields
abbrev pub touching_text : List LineReading → List (List ℕ) → Spot → ℕ → ℕ → List ℕ
touching_text readings lines (Columns line at next) first last =
    pair_of (slice_get lines (line - 1)) (slice_get readings (line - 1)) at next first last
touching_text readings lines spot first last = []

-- a number in parts of 10^-places, between its name and its unit
unfoldable pub quantity_text : List ℕ → ℤ → ℕ → List ℕ → List ℕ
quantity_text name value places unit = name ++ fixed_text value places ++ unit

-- an inductance without a fictitious resistance to speak of, where there is one
abbrev pub clean_text : Option ℤ → List ℕ
clean_text None = []
clean_text (Some l) = quantity_text CLEAN.now l 6 MILLIHENRY.now

-- the resistance that a branch acts with besides its own, and what it does to a current over the run
unfoldable pub drift_text : ℤ → ℤ → Option ℤ → List ℕ
drift_text resistance drift clean =
    quantity_text SERIES_RESISTANCE.now resistance 9 OHM.now ++ quantity_text DRIFT.now drift 9 NO_UNIT.now ++ clean_text clean

abbrev pub numbers_by : List LineReading → List (List ℕ) → Spot → Finding → List ℕ
numbers_by readings lines spot (NumbersTouch first last) = touching_text readings lines spot first last
numbers_by readings lines spot (Drifts resistance drift clean) = drift_text resistance drift clean
numbers_by readings lines spot (OtherResistance acting) = quantity_text WHOLE_RESISTANCE.now acting 9 OHM.now
numbers_by readings lines spot (OtherCapacitance acting) = quantity_text ACTING_CAPACITANCE.now acting 9 MICROFARAD.now
numbers_by readings lines spot finding = []

abbrev pub numbers_text : List LineReading → List (List ℕ) → Warning → List ℕ
numbers_text readings lines w = numbers_by readings lines w.spot w.finding

unfoldable pub warning_line : List LineReading → List (List ℕ) → Warning → List ℕ
warning_line readings lines w =
    codes "warning, " ++ spot_text w.spot ++ codes ", " ++ finding_text w.finding ++ numbers_text readings lines w ++ codes "\n"

abbrev pub warnings_text : List LineReading → List (List ℕ) → List Warning → List ℕ
warnings_text readings lines [] = []
warnings_text readings lines (w ∷ ws) = warning_line readings lines w ++ warnings_text readings lines ws
