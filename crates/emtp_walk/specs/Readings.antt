-- As what each line is read: what the places of the walk say of the lines that stand there.
use Rattle.std.specs.List.{starts_with}
use Rattle.std.specs.Prelude.{ℕ, ◌+◌, nat_eq, Bool, false, List, [], ◌∷◌, codes, Ok, Err, if◌then◌else◌}
use Rattle.emtp_card.specs.Lines.{is_comment, is_section_end}
use Rattle.emtp_netcards.specs.BranchCard.{kind_field}
use Rattle.emtp_netcards.specs.VintageCard.{is_vintage}
use Rattle.emtp_walk.specs.ControlSteps.{device_scale}
use Rattle.emtp_walk.specs.LineRead.{Read}
use Rattle.emtp_walk.specs.Walk.{advance, empty_deck, is_second, scale_of}
use Rattle.emtp_walk.specs.declared.control_cards.ControlPlace.{ControlPlace}
use Rattle.emtp_walk.specs.declared.control_cards.ControlPlace.TheVariants.{Blocks, Denominator, DevicePoints, Extras, Initial, Numerator, TacsOutputs, TacsSources}
use Rattle.emtp_walk.specs.declared.deck.Deck.{Deck}
use Rattle.emtp_walk.specs.declared.deck.Place.{Place}
use Rattle.emtp_walk.specs.declared.deck.Place.TheVariants.{After, Begin, Branches, Control, First, Outputs, Points, Second, Sources, Start, Switches, Third, Waiting}
use Rattle.emtp_walk.specs.declared.kind.Kind.{Kind}
use Rattle.emtp_walk.specs.declared.kind.Kind.TheVariants as read
use Rattle.emtp_walk.specs.declared.kind.LineReading.{LineReading}

-- ---- as what a line is read that is no comment, in the order in which the step of its place asks

-- a line that ends a section, or a card
abbrev pub end_or : List ℕ → Kind → Kind
end_or line kind = if is_section_end line then read.SectionEnd else kind

abbrev pub vintage_or : List ℕ → Kind → Kind
vintage_or line kind = if is_vintage line then read.Vintage else kind

abbrev pub branch_kind : List ℕ → Bool → Kind
branch_kind line wide = end_or line (vintage_or line (read.Branch wide))

-- a card -2 behind a card -1 is its second phase
abbrev pub waiting_kind : List ℕ → Bool → Kind
waiting_kind line wide = if is_second (kind_field line) then read.Branch wide else branch_kind line wide

abbrev pub first_kind : List ℕ → Kind
first_kind line = if starts_with nat_eq line (codes "RESIDUAL TOLERANCE") then read.Tolerance else read.FirstRun

abbrev pub start_kind : List ℕ → Kind
start_kind line = if starts_with nat_eq line (codes "TACS HYBRID") then read.Hybrid else branch_kind line false

abbrev pub control_kind : ControlPlace → List ℕ → Kind
control_kind Blocks line = end_or line read.Block
control_kind (Numerator card) line = read.Coefficients card.order
control_kind (Denominator card top number) line = read.Coefficients card.order
control_kind TacsSources line = end_or line read.TacsSource
control_kind Extras line = end_or line read.Extra
control_kind (DevicePoints group) line = read.Point (device_scale group.card.code)
control_kind TacsOutputs line = end_or line read.TacsOutput
control_kind Initial line = end_or line read.Initial

abbrev pub card_kind : Place → List ℕ → Kind
card_kind Begin line = end_or line read.Begin
card_kind (First seen) line = first_kind line
card_kind Second line = read.SecondRun
card_kind Start line = start_kind line
card_kind (Control at) line = control_kind at line
card_kind (Branches wide) line = branch_kind line wide
card_kind (Points group) line = read.Point (scale_of group)
card_kind (Waiting card wide) line = waiting_kind line wide
card_kind (Third zero' positive wide) line = read.Branch wide
card_kind Switches line = end_or line read.Switch
card_kind Sources line = end_or line read.Source
card_kind Outputs line = end_or line read.Output
card_kind (After seen) line = end_or line read.After

abbrev pub kind_at : Place → List ℕ → Kind
kind_at place line = if is_comment line then read.Comment else card_kind place line

-- ---- which card is due at a place

abbrev pub control_due : ControlPlace → Kind
control_due Blocks = read.Block
control_due (Numerator card) = read.Coefficients card.order
control_due (Denominator card top line) = read.Coefficients card.order
control_due TacsSources = read.TacsSource
control_due Extras = read.Extra
control_due (DevicePoints group) = read.Point (device_scale group.card.code)
control_due TacsOutputs = read.TacsOutput
control_due Initial = read.Initial

abbrev pub kind_due : Place → Kind
kind_due Begin = read.Begin
kind_due (First seen) = read.FirstRun
kind_due Second = read.SecondRun
kind_due Start = read.Branch false
kind_due (Control at) = control_due at
kind_due (Branches wide) = read.Branch wide
kind_due (Points group) = read.Point (scale_of group)
kind_due (Waiting card wide) = read.Branch wide
kind_due (Third zero' positive wide) = read.Branch wide
kind_due Switches = read.Switch
kind_due Sources = read.Source
kind_due Outputs = read.Output
kind_due (After seen) = read.After

-- ---- the line of the card that a line belongs to

abbrev pub first_of_control : ControlPlace → ℕ → ℕ
first_of_control (Numerator card) number = card.line
first_of_control (Denominator card top line) number = card.line
first_of_control (DevicePoints group) number = group.card.line
first_of_control other number = number

-- a card -2 behind a card -1 is its second phase
abbrev pub first_waiting : ℕ → ℕ → List ℕ → ℕ
first_waiting first number line = if is_second (kind_field line) then first else number

abbrev pub first_of : Place → ℕ → List ℕ → ℕ
first_of (Control at) number line = first_of_control at number
first_of (Points group) number line = group.card.line
first_of (Waiting card wide) number line = first_waiting card.line number line
first_of (Third zero' positive wide) number line = zero'.line
first_of other number line = number

-- ---- all lines

abbrev pub line_reading : ℕ → Place → List ℕ → LineReading
line_reading number place line = record { kind = kind_at place line; first = first_of place number line }

-- what is due where no line is
abbrev pub due : ℕ → Place → LineReading
due number place = record { kind = kind_due place; first = first_of place number [] }

-- nothing is read behind a line that has a fault
abbrev pub unless_refused : (Deck × Place → List LineReading) → Read → List LineReading
unless_refused behind (Ok next) = behind next
unless_refused behind (Err bad) = []

-- as what the lines from a number on are read, up to the first one that has a fault, that one too; and what is due behind the last
abbrev pub readings_from : ℕ → Deck → Place → List (List ℕ) → List LineReading
readings_from number deck place [] = due number place ∷ []
readings_from number deck place (line ∷ lines) =
    line_reading number place line
    ∷ unless_refused (λ (next : Deck × Place). readings_from (number + 1) next.0 next.1 lines)
    (advance deck place number line)

abbrev pub line_readings : List (List ℕ) → List LineReading
line_readings lines = readings_from 1 empty_deck Begin lines
