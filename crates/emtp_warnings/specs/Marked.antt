-- Which columns of a line are read: the ruler of its card.
use Rattle.std.specs.Prelude.{ℕ, ◌+◌, ◌*◌, ◌==◌, min, length, take, Bool, true, false, not, ◌&&◌, List, [], Option, None, Result, Ok, Err, if◌then◌else◌}
use Rattle.std.specs.Str.{bytes_eq}
use Rattle.emtp_card.specs.Field.{field_of}
use Rattle.emtp_card.specs.Lines.{is_section_end}
use Rattle.emtp_card.specs.declared.reason.Bad.{Bad}
use Rattle.emtp_card.specs.declared.reason.Why.{Why}
use Rattle.emtp_case.specs.declared.source.Shape.{Shape}
use Rattle.emtp_case.specs.declared.source.Shape.TheVariants.{Cosine, NodeVoltage, Pulse, Ramp, Saw, Step, SwitchCurrent, SwitchStatus, Tacs}
use Rattle.emtp_netcards.specs.BranchCard.{kind_field}
use Rattle.emtp_netcards.specs.OutputCard.{output_card}
use Rattle.emtp_netcards.specs.SourceCard as sources
use Rattle.emtp_netcards.specs.SwitchCard as switches
use Rattle.emtp_netcards.specs.held.PointCard.{point_card}
use Rattle.emtp_netcards.specs.declared.point_card.PointScale.{PointScale}
use Rattle.emtp_case.specs.declared.branch.Point.{Point}
use Rattle.emtp_walk.specs.declared.kind.Kind.{Kind}
use Rattle.emtp_walk.specs.declared.kind.Kind.TheVariants as read
use Rattle.emtp_netcards.specs.declared.branch_card.BranchKind.{BranchKind}
use Rattle.emtp_netcards.specs.declared.branch_card.BranchKind.TheVariants.{Line as LineKind, Reactor as ReactorKind, Resistor as ResistorKind, Second as SecondKind, Series as SeriesKind, Third as ThirdKind}
use Rattle.emtp_netcards.specs.declared.output_card.OutputCard.{OutputCard}
use Rattle.emtp_netcards.specs.declared.output_card.OutputCard.TheVariants.{All as AllNodes, Names}
use Rattle.emtp_netcards.specs.declared.source_card.SourceCard.{SourceCard}
use Rattle.emtp_netcards.specs.declared.source_card.SourceType.{SourceType}
use Rattle.emtp_netcards.specs.declared.source_card.SourceType.TheVariants.{Cosine as CosineType, Ramp as RampType, Step as StepType, Tacs as TacsType}
use Rattle.emtp_netcards.specs.declared.switch_card.SwitchType.{SwitchType}
use Rattle.emtp_netcards.specs.declared.switch_card.SwitchType.TheVariants.{Control as ControlType, Time as TimeType, Valve as ValveType}
use Rattle.emtp_taccards.specs.TacsSourceCard.{tacs_source_card}
use Rattle.emtp_warnings.specs.declared.rulers.TheConstants.{ALL_NODES, BLOCK, CONTROLLED, COPY, COSINE, DEVICE, ENDING, FIRST_RUN, FORMULA, FREE, LEVEL, LINE, MEASURED, MEASURING, NAMES, POINT, POLYNOMIAL, PULSE, RAMP, RESISTOR, SAW, SECOND_RUN, SERIES, STEP, TACS_COSINE, THIRD_PHASE, TIME_SWITCH, TOLERANCE, VALVE, VARIABLE, WIDE_SERIES}

-- ---- branches

-- columns 15 to 26 name another card
abbrev pub names_another : List ℕ → Bool
names_another line = not ((length (field_of line 15 20) == 0) && (length (field_of line 21 26) == 0))

-- the values of a card that takes those of another aren't read
abbrev pub copy_or : Bool → List ℕ → List ℕ
copy_or copies own = if copies then COPY.now else own

abbrev pub series_ruler : Bool → List ℕ
series_ruler wide = if wide then WIDE_SERIES.now else SERIES.now

abbrev pub ruler_of_kind : Bool → Bool → Result BranchKind Why → List ℕ
ruler_of_kind wide copies (Ok SeriesKind) = copy_or copies (series_ruler wide)
ruler_of_kind wide copies (Ok LineKind) = copy_or copies LINE.now
ruler_of_kind wide copies (Ok SecondKind) = copy_or copies LINE.now
ruler_of_kind wide copies (Ok ThirdKind) = THIRD_PHASE.now
ruler_of_kind wide copies (Ok ReactorKind) = COPY.now
ruler_of_kind wide copies (Ok ResistorKind) = copy_or copies RESISTOR.now
ruler_of_kind wide copies (Err why) = FREE.now

-- ---- switches, sources, outputs

abbrev pub switch_ruler : Bool → Result SwitchType Why → List ℕ
switch_ruler measuring (Ok TimeType) = if measuring then MEASURING.now else TIME_SWITCH.now
switch_ruler measuring (Ok ValveType) = VALVE.now
switch_ruler measuring (Ok ControlType) = CONTROLLED.now
switch_ruler measuring (Err why) = FREE.now

abbrev pub source_ruler : Result SourceType Why → List ℕ
source_ruler (Ok StepType) = STEP.now
source_ruler (Ok RampType) = RAMP.now
source_ruler (Ok CosineType) = COSINE.now
source_ruler (Ok TacsType) = VARIABLE.now
source_ruler (Err why) = FREE.now

abbrev pub output_ruler : Result OutputCard Bad → List ℕ
output_ruler (Ok AllNodes) = ALL_NODES.now
output_ruler (Ok (Names names)) = NAMES.now
output_ruler (Err bad) = FREE.now

-- ---- points

-- the card that ends points
abbrev pub is_last_card : Result (Option Point) Bad → Bool
is_last_card (Ok None) = true
is_last_card other = false

abbrev pub ends_points : ℕ → List ℕ → PointScale → Bool
ends_points number line scale = is_last_card (point_card number line scale)

abbrev pub point_ruler : Bool → List ℕ
point_ruler last = if last then ENDING.now else POINT.now

-- ---- the control

-- the coefficients of powers above the order aren't read
abbrev pub polynomial_ruler : ℕ → List ℕ
polynomial_ruler order = take (min (10 * (order + 1)) 80) POLYNOMIAL.now

abbrev pub ruler_of_shape : Shape → List ℕ
ruler_of_shape Step = LEVEL.now
ruler_of_shape (Ramp rise) = FREE.now
ruler_of_shape (Cosine freq phase) = TACS_COSINE.now
ruler_of_shape (Tacs var) = FREE.now
ruler_of_shape (Pulse period width) = PULSE.now
ruler_of_shape (Saw period) = SAW.now
ruler_of_shape (NodeVoltage node) = MEASURED.now
ruler_of_shape (SwitchCurrent switch) = MEASURED.now
ruler_of_shape (SwitchStatus switch) = MEASURED.now

abbrev pub tacs_source_ruler : Result SourceCard Bad → List ℕ
tacs_source_ruler (Ok card) = ruler_of_shape card.shape
tacs_source_ruler (Err bad) = FREE.now

-- a formula is known by its blank columns 9 and 10
abbrev pub extra_ruler : List ℕ → List ℕ
extra_ruler line = if length (field_of line 9 10) == 0 then FORMULA.now else DEVICE.now

-- ---- all kinds of lines

abbrev pub unless_end : List ℕ → List ℕ → List ℕ
unless_end line ruler = if is_section_end line then FREE.now else ruler

-- the ruler of a line by its number, its bytes and as what it is read
abbrev pub ruler_of : ℕ → List ℕ → Kind → List ℕ
ruler_of number line read.Tolerance = TOLERANCE.now
ruler_of number line read.FirstRun = FIRST_RUN.now
ruler_of number line read.SecondRun = unless_end line SECOND_RUN.now
ruler_of number line read.Block = BLOCK.now
ruler_of number line (read.Coefficients order) = polynomial_ruler order
ruler_of number line read.TacsSource = tacs_source_ruler (tacs_source_card number line)
ruler_of number line read.Extra = extra_ruler line
ruler_of number line read.TacsOutput = NAMES.now
ruler_of number line (read.Branch wide) = ruler_of_kind wide (names_another line) (kind_field line)
ruler_of number line (read.Point scale) = point_ruler (ends_points number line scale)
ruler_of number line read.Switch = switch_ruler (switches.is_measuring line) (switches.type_field line)
ruler_of number line read.Source = source_ruler (sources.type_field line)
ruler_of number line read.Output = output_ruler (output_card number line)
ruler_of number line other = FREE.now

-- ---- the fields of a line

-- the ruler of the type of a card that has the most fields
abbrev pub fullest_ruler : Kind → List ℕ
fullest_ruler read.TacsSource = TACS_COSINE.now
fullest_ruler (read.Branch wide) = series_ruler wide
fullest_ruler read.Switch = TIME_SWITCH.now
fullest_ruler read.Source = COSINE.now
fullest_ruler read.Output = NAMES.now
fullest_ruler other = []

-- where a card's own columns don't say which ruler it has, as one of no known type, it is shown as the fullest one
abbrev pub field_ruler : ℕ → List ℕ → Kind → List ℕ
field_ruler number line kind =
    if bytes_eq (ruler_of number line kind) FREE.now then fullest_ruler kind else ruler_of number line kind
