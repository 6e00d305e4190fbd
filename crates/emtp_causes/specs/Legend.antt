-- The names of a card's fields over their columns.
use Rattle.std.specs.Prelude.{[], ◌+◌, ◌-◌, ◌==◌, Bool, List, Result, Ok, Err, codes, drop, if◌then◌else◌, length, reverse, take, take_while, ℕ}
use Rattle.emtp_card.specs.Field.{field_of}
use Rattle.emtp_card.specs.declared.reason.Why.{Why}
use Rattle.emtp_netcards.specs.BranchCard.{kind_field}
use Rattle.emtp_netcards.specs.SwitchCard.{type_field}
use Rattle.emtp_netcards.specs.declared.branch_card.BranchKind.{BranchKind}
use Rattle.emtp_netcards.specs.declared.branch_card.BranchKind.TheVariants.{Line as LineKind, Reactor as ReactorKind, Resistor as ResistorKind, Second as SecondKind, Series as SeriesKind, Third as ThirdKind}
use Rattle.emtp_netcards.specs.declared.point_card.PointScale.{PointScale}
use Rattle.emtp_netcards.specs.declared.point_card.PointScale.TheVariants.{Reactor as OfReactor, Resistor as OfResistor, Table, Times}
use Rattle.emtp_netcards.specs.declared.switch_card.SwitchType.{SwitchType}
use Rattle.emtp_netcards.specs.declared.switch_card.SwitchType.TheVariants.{Control as ControlType, Time as TimeType, Valve as ValveType}
use Rattle.emtp_walk.specs.declared.kind.Kind.{Kind}
use Rattle.emtp_walk.specs.declared.kind.Kind.TheVariants as read
use Rattle.emtp_causes.specs.declared.texts.TheConstants.{BLOCK_FIELDS, CHARACTERISTIC_FIELDS, COEFFICIENT_FIELDS, DEVICE_FIELDS, FIRST_RUN_FIELDS, FORMULA_FIELDS, LINE_FIELDS, OUTPUT_FIELDS, PAIR_FIELDS, RESISTOR_FIELDS, SECOND_RUN_FIELDS, SERIES_FIELDS, SOURCE_FIELDS, TACS_SOURCE_FIELDS, TIME_SWITCH_FIELDS, TOLERANCE_FIELDS, VALVE_FIELDS, WIDE_SERIES_FIELDS}

abbrev pub series_legend : Bool → List ℕ
series_legend wide =
    if wide then WIDE_SERIES_FIELDS.now
    else SERIES_FIELDS.now

abbrev pub line_legend : List ℕ
line_legend = LINE_FIELDS.now

abbrev pub pseudo_legend : List ℕ
pseudo_legend = RESISTOR_FIELDS.now

-- a card of no known type is shown as a series branch
abbrev pub branch_legend : Bool → Result BranchKind Why → List ℕ
branch_legend wide (Ok SeriesKind) = series_legend wide
branch_legend wide (Ok LineKind) = line_legend
branch_legend wide (Ok SecondKind) = line_legend
branch_legend wide (Ok ThirdKind) = line_legend
branch_legend wide (Ok ReactorKind) = pseudo_legend
branch_legend wide (Ok ResistorKind) = pseudo_legend
branch_legend wide (Err why) = series_legend wide

-- a formula is known by its blank columns 9 and 10
abbrev pub extra_legend : List ℕ → List ℕ
extra_legend line =
    if length (field_of line 9 10) == 0
    then FORMULA_FIELDS.now
    else DEVICE_FIELDS.now

abbrev pub point_legend : PointScale → List ℕ
point_legend OfResistor = CHARACTERISTIC_FIELDS.now
point_legend OfReactor = CHARACTERISTIC_FIELDS.now
point_legend Table = PAIR_FIELDS.now
point_legend Times = PAIR_FIELDS.now

abbrev pub time_legend : List ℕ
time_legend = TIME_SWITCH_FIELDS.now

abbrev pub control_legend : List ℕ
control_legend = VALVE_FIELDS.now

abbrev pub switch_legend : Result SwitchType Why → List ℕ
switch_legend (Ok TimeType) = time_legend
switch_legend (Ok ValveType) = control_legend
switch_legend (Ok ControlType) = control_legend
switch_legend (Err why) = time_legend

abbrev pub names_legend : List ℕ
names_legend = OUTPUT_FIELDS.now

-- nothing where the line has no fields
abbrev pub card_legend : List ℕ → Kind → List ℕ
card_legend line read.Tolerance = TOLERANCE_FIELDS.now
card_legend line read.FirstRun = FIRST_RUN_FIELDS.now
card_legend line read.SecondRun = SECOND_RUN_FIELDS.now
card_legend line read.Block = BLOCK_FIELDS.now
card_legend line (read.Coefficients order) = COEFFICIENT_FIELDS.now
card_legend line read.TacsSource = TACS_SOURCE_FIELDS.now
card_legend line read.Extra = extra_legend line
card_legend line read.TacsOutput = names_legend
card_legend line read.Output = names_legend
card_legend line (read.Branch wide) = branch_legend wide (kind_field line)
card_legend line (read.Point scale) = point_legend scale
card_legend line read.Switch = switch_legend (type_field line)
card_legend line read.Source = SOURCE_FIELDS.now
card_legend line other = []

-- ---- the name of one field

-- how many dashes stand at the end, which fill a name up to the width of its field
abbrev pub dash_count : List ℕ → ℕ
dash_count name = length (take_while (λ byte. byte == 45) (reverse name))

abbrev pub without_dashes : List ℕ → List ℕ
without_dashes name = take (length name - dash_count name) name

-- the name of the field that the card of a line has in these columns
abbrev pub field_name : List ℕ → Kind → ℕ → ℕ → List ℕ
field_name line kind first last = without_dashes (take (last + 1 - first) (drop (first - 1) (card_legend line kind)))
