-- Which number each field of a card holds, by the first column of the field.
use Rattle.std.specs.Prelude.{◌+◌, ◌==◌, Bool, Err, List, None, Ok, Option, Result, Some, if◌then◌else◌, int_lt, neg_ℤ, pos, ℕ, ℤ}
use Rattle.std.specs.Ordering.{int_eq}
use Rattle.emtp_card.specs.Whole.{whole_field}
use Rattle.emtp_card.specs.declared.number_field.NumberField.{NumberField}
use Rattle.emtp_card.specs.declared.reason.Why.{Why}
use Rattle.emtp_fix.specs.declared.limit.TheConstants.{LARGEST_COEFFICIENT}
use Rattle.emtp_netcards.specs.BranchCard.{kind_field}
use Rattle.emtp_netcards.specs.SwitchCard.{type_field}
use Rattle.emtp_netcards.specs.declared.branch_card.BranchKind.{BranchKind}
use Rattle.emtp_netcards.specs.declared.branch_card.BranchKind.TheVariants.{Line as LineKind, Reactor as ReactorKind, Resistor as ResistorKind, Second as SecondKind, Series as SeriesKind, Third as ThirdKind}
use Rattle.emtp_netcards.specs.declared.point_card.PointScale.{PointScale}
use Rattle.emtp_netcards.specs.declared.point_card.PointScale.TheVariants.{Reactor as OfReactor, Resistor as OfResistor, Table, Times}
use Rattle.emtp_netcards.specs.declared.switch_card.SwitchType.{SwitchType}
use Rattle.emtp_netcards.specs.declared.switch_card.SwitchType.TheVariants.{Control as ControlType, Time as TimeType, Valve as ValveType}
use Rattle.emtp_walk.specs.declared.kind.Kind.{Kind}
use Rattle.emtp_walk.specs.declared.kind.Kind.TheVariants as read
use Rattle.emtp_fields.specs.Measure.{measure_with}
use Rattle.emtp_fields.specs.declared.measure.Blank.TheVariants.{Never, Nothing, One, Open, Zero}
use Rattle.emtp_fields.specs.declared.measure.Measure.{Measure}
use Rattle.emtp_fields.specs.declared.measure.Reading.TheVariants.{Held, Number, Whole as WholeNumber}
use Rattle.emtp_fields.specs.declared.measure.Unit.TheVariants.{Ampere, Degree, Hertz, Microfarad, Millihenry, Ohm, Plain, Second, Volt, Weber, Whole}
use Rattle.emtp_fields.specs.declared.numbers.TheConstants.{A, A1, AMPLITUDE, ASKED, B, C, CLOSING, COPT, CURRENT, C_OF_DEVICE, DELAY, DELAY_OF_DEVICE, DELTAT, FLASHOVER, FLUX, FORM, FREQUENCY, FREQUENCY_OF_DEVICE, GAIN, HIGH, HOLDING, IGNITION, INPUT, IOUT, IPLOT, JUMP, L, LENGTH, LINE_C, LINE_L, LINE_R, LOW, MARGIN, OPENING, ORDER, OUTPUT, PERIOD, PHASE, R, RISE, SOURCE_KIND, START, STOP, SURGE_IMPEDANCE, TMAX, TOLERANCE, TRAVEL_TIME, T_CLOSE, T_OPEN, VELOCITY, VOLTAGE, WIDE_C, WIDE_L, WIDE_R, WIDTH, XOPT}

abbrev pub whole_or : Result (Option ℤ) Why → ℤ
whole_or (Ok (Some number)) = number
whole_or (Ok None) = pos 0
whole_or (Err why) = pos 0

-- the whole number in some columns; 0 where there is none
abbrev pub whole_at : List ℕ → ℕ → ℕ → ℤ
whole_at line first last = whole_or (whole_field line first last)

-- ---- cards of one kind

abbrev pub tolerance_measure : ℕ → Option Measure
tolerance_measure first =
    if first == 25 then Some (measure_with TOLERANCE Ampere Nothing Number)
    else None

abbrev pub first_run_measure : ℕ → Option Measure
first_run_measure first =
    if first == 1 then Some (measure_with DELTAT Second Nothing Number)
    else if first == 9 then Some (measure_with TMAX Second Nothing Number)
    else if first == 17 then Some (measure_with XOPT Plain Zero Number)
    else if first == 25 then Some (measure_with COPT Plain Zero Number)
    else None

abbrev pub second_run_measure : ℕ → Option Measure
second_run_measure first =
    if first == 1 then Some (measure_with IOUT Whole Zero WholeNumber)
    else if first == 9 then Some (measure_with IPLOT Whole One WholeNumber)
    else None

abbrev pub block_measure : ℕ → Option Measure
block_measure first =
    if first == 1 then Some (measure_with ORDER Whole Zero WholeNumber)
    else if first == 51 then Some (measure_with GAIN Plain One Number)
    else if first == 57 then Some (measure_with LOW Plain Nothing Number)
    else if first == 63 then Some (measure_with HIGH Plain Nothing Number)
    else None

abbrev pub series_measure : ℕ → Option Measure
series_measure first =
    if first == 27 then Some (measure_with R Ohm Zero Number)
    else if first == 33 then Some (measure_with L Millihenry Zero Number)
    else if first == 39 then Some (measure_with C Microfarad Zero Number)
    else if first == 80 then Some (measure_with ASKED Whole Zero WholeNumber)
    else None

abbrev pub wide_measure : ℕ → Option Measure
wide_measure first =
    if first == 27 then Some (measure_with WIDE_R Ohm Zero Number)
    else if first == 43 then Some (measure_with WIDE_L Millihenry Zero Number)
    else if first == 59 then Some (measure_with WIDE_C Microfarad Zero Number)
    else if first == 80 then Some (measure_with ASKED Whole Zero WholeNumber)
    else None

abbrev pub inductance_measure : ℕ → Option Measure
inductance_measure first =
    if first == 27 then Some (measure_with LINE_R Ohm Zero Number)
    else if first == 33 then Some (measure_with LINE_L Millihenry Nothing Number)
    else if first == 39 then Some (measure_with LINE_C Microfarad Nothing Number)
    else if first == 45 then Some (measure_with LENGTH Plain Nothing Number)
    else if first == 51 then Some (measure_with FORM Whole Zero WholeNumber)
    else if first == 80 then Some (measure_with ASKED Whole Zero WholeNumber)
    else None

abbrev pub velocity_measure : ℕ → Option Measure
velocity_measure first =
    if first == 27 then Some (measure_with LINE_R Ohm Zero Number)
    else if first == 33 then Some (measure_with SURGE_IMPEDANCE Ohm Nothing Number)
    else if first == 39 then Some (measure_with VELOCITY Plain Nothing Number)
    else if first == 45 then Some (measure_with LENGTH Plain Nothing Number)
    else if first == 51 then Some (measure_with FORM Whole Zero WholeNumber)
    else if first == 80 then Some (measure_with ASKED Whole Zero WholeNumber)
    else None

abbrev pub travel_measure : ℕ → Option Measure
travel_measure first =
    if first == 27 then Some (measure_with LINE_R Ohm Zero Number)
    else if first == 33 then Some (measure_with SURGE_IMPEDANCE Ohm Nothing Number)
    else if first == 39 then Some (measure_with TRAVEL_TIME Second Nothing Number)
    else if first == 45 then Some (measure_with LENGTH Plain Nothing Number)
    else if first == 51 then Some (measure_with FORM Whole Zero WholeNumber)
    else if first == 80 then Some (measure_with ASKED Whole Zero WholeNumber)
    else None

abbrev pub nonlinear_measure : ℕ → Option Measure
nonlinear_measure first =
    if first == 27 then Some (measure_with FLASHOVER Plain Zero Number)
    else if first == 33 then Some (measure_with DELAY Plain Zero Number)
    else if first == 39 then Some (measure_with JUMP Plain Zero Number)
    else if first == 80 then Some (measure_with ASKED Whole Zero WholeNumber)
    else None

abbrev pub resistor_measure : ℕ → Option Measure
resistor_measure first =
    if first == 1 then Some (measure_with CURRENT Ampere Nothing Number)
    else if first == 17 then Some (measure_with VOLTAGE Volt Nothing Number)
    else None

abbrev pub reactor_measure : ℕ → Option Measure
reactor_measure first =
    if first == 1 then Some (measure_with CURRENT Ampere Nothing Number)
    else if first == 17 then Some (measure_with FLUX Weber Nothing Number)
    else None

abbrev pub table_measure : ℕ → Option Measure
table_measure first =
    if first == 1 then Some (measure_with INPUT Plain Nothing Number)
    else if first == 17 then Some (measure_with OUTPUT Plain Nothing Number)
    else None

abbrev pub window_measure : ℕ → Option Measure
window_measure first =
    if first == 1 then Some (measure_with CLOSING Second Nothing Number)
    else if first == 17 then Some (measure_with OPENING Second Nothing Number)
    else None

abbrev pub time_measure : ℕ → Option Measure
time_measure first =
    if first == 15 then Some (measure_with T_CLOSE Second Zero Held)
    else if first == 25 then Some (measure_with T_OPEN Second Open Held)
    else if first == 35 then Some (measure_with MARGIN Ampere Zero Number)
    else if first == 80 then Some (measure_with ASKED Whole Zero WholeNumber)
    else None

abbrev pub valve_measure : ℕ → Option Measure
valve_measure first =
    if first == 15 then Some (measure_with IGNITION Volt Zero Number)
    else if first == 25 then Some (measure_with HOLDING Ampere Zero Number)
    else if first == 80 then Some (measure_with ASKED Whole Zero WholeNumber)
    else None

-- what all sources have
abbrev pub course_measure : ℕ → Option Measure
course_measure first =
    if first == 21 then Some (measure_with FREQUENCY Hertz Zero Number)
    else if first == 41 then Some (measure_with A1 Plain Zero Number)
    else if first == 61 then Some (measure_with START Second Zero Held)
    else if first == 71 then Some (measure_with STOP Second Never Held)
    else None

abbrev pub coefficient_field : ℕ → NumberField
coefficient_field first =
    record { first = first; last = first + 9; scale = pos 12; low = neg_ℤ (pos LARGEST_COEFFICIENT); high = pos LARGEST_COEFFICIENT }

abbrev pub coefficient : ℕ → Measure
coefficient first = measure_with (coefficient_field first) Plain Zero Number

-- a coefficient of a block, in ten columns
abbrev pub coefficient_measure : ℕ → Option Measure
coefficient_measure first =
    if first == 1 then Some (coefficient 1)
    else if first == 11 then Some (coefficient 11)
    else if first == 21 then Some (coefficient 21)
    else if first == 31 then Some (coefficient 31)
    else if first == 41 then Some (coefficient 41)
    else if first == 51 then Some (coefficient 51)
    else if first == 61 then Some (coefficient 61)
    else if first == 71 then Some (coefficient 71)
    else None

-- ---- cards of several types

-- a line by its form, ILINE
abbrev pub line_measure : ℤ → ℕ → Option Measure
line_measure form first =
    if int_eq form (pos 1) then velocity_measure first
    else if int_eq form (pos 2) then travel_measure first
    else inductance_measure first

abbrev pub either_width : Bool → ℕ → Option Measure
either_width wide first = if wide then wide_measure first else series_measure first

-- a branch of no known type is a series branch
abbrev pub branch_measure : Result BranchKind Why → Bool → ℤ → ℕ → Option Measure
branch_measure (Ok SeriesKind) wide form first = either_width wide first
branch_measure (Ok LineKind) wide form first = line_measure form first
branch_measure (Ok SecondKind) wide form first = line_measure form first
branch_measure (Ok ThirdKind) wide form first = line_measure form first
branch_measure (Ok ReactorKind) wide form first = nonlinear_measure first
branch_measure (Ok ResistorKind) wide form first = nonlinear_measure first
branch_measure (Err why) wide form first = either_width wide first

abbrev pub point_measure : PointScale → ℕ → Option Measure
point_measure OfResistor first = resistor_measure first
point_measure OfReactor first = reactor_measure first
point_measure Table first = table_measure first
point_measure Times first = window_measure first

abbrev pub switch_measure : Result SwitchType Why → ℕ → Option Measure
switch_measure (Ok TimeType) first = time_measure first
switch_measure (Ok ValveType) first = valve_measure first
switch_measure (Ok ControlType) first = valve_measure first
switch_measure (Err why) first = time_measure first

abbrev pub amplitude_measure : ℤ → Measure
amplitude_measure current =
    if int_lt current (pos 0) then measure_with AMPLITUDE Ampere Zero Number else measure_with AMPLITUDE Volt Zero Number

-- a ramp has T0 where a cosine has its phase
abbrev pub angle_measure : ℤ → Measure
angle_measure kind =
    if int_eq kind (pos 12) then measure_with RISE Second Nothing Number else measure_with PHASE Degree Zero Number

abbrev pub source_measure : ℤ → ℤ → ℕ → Option Measure
source_measure kind current first =
    if first == 9 then Some (measure_with SOURCE_KIND Whole Zero WholeNumber)
    else if first == 11 then Some (amplitude_measure current)
    else if first == 31 then Some (angle_measure kind)
    else course_measure first

-- pulses and a sawtooth have times where a cosine has frequency and phase
abbrev pub period_measure : ℤ → Measure
period_measure kind =
    if int_eq kind (pos 23) then measure_with PERIOD Second Nothing Number
    else if int_eq kind (pos 24) then measure_with PERIOD Second Nothing Number
    else measure_with FREQUENCY Hertz Zero Number

abbrev pub width_measure : ℤ → Measure
width_measure kind =
    if int_eq kind (pos 23) then measure_with WIDTH Second Nothing Number else measure_with PHASE Degree Zero Number

abbrev pub tacs_source_measure : ℤ → ℕ → Option Measure
tacs_source_measure kind first =
    if first == 11 then Some (measure_with AMPLITUDE Plain Zero Number)
    else if first == 21 then Some (period_measure kind)
    else if first == 31 then Some (width_measure kind)
    else course_measure first

-- A of a delay is a time, that of an effective value a frequency
abbrev pub a_measure : ℤ → Measure
a_measure code =
    if int_eq code (pos 53) then measure_with DELAY_OF_DEVICE Second Zero Number
    else if int_eq code (pos 66) then measure_with FREQUENCY_OF_DEVICE Hertz Nothing Number
    else measure_with A Plain Zero Number

abbrev pub device_measure : ℤ → ℕ → Option Measure
device_measure code first =
    if first == 51 then Some (a_measure code)
    else if first == 57 then Some (measure_with B Plain Zero Number)
    else if first == 63 then Some (measure_with C_OF_DEVICE Plain Zero Number)
    else None

-- what the number of the field that begins in a column is; none where the field holds none
abbrev pub measure_of : List ℕ → Kind → ℕ → Option Measure
measure_of line read.Tolerance first = tolerance_measure first
measure_of line read.FirstRun first = first_run_measure first
measure_of line read.SecondRun first = second_run_measure first
measure_of line read.Block first = block_measure first
measure_of line (read.Coefficients order) first = coefficient_measure first
measure_of line read.TacsSource first = tacs_source_measure (whole_at line 1 2) first
measure_of line read.Extra first = device_measure (whole_at line 9 10) first
measure_of line (read.Branch wide) first = branch_measure (kind_field line) wide (whole_at line 51 52) first
measure_of line (read.Point scale) first = point_measure scale first
measure_of line read.Switch first = switch_measure (type_field line) first
measure_of line read.Source first = source_measure (whole_at line 1 2) (whole_at line 9 10) first
measure_of line other first = None
