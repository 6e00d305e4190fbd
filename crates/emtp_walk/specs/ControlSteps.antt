-- Lines of the control: five sections, each ended by a line that ends a section.
use Rattle.std.specs.Prelude.{Bool, List, None, Ok, Option, Result, Some, [], false, if◌then◌else◌, length, pos, replicate, true, ℕ, ℤ, ◌++◌, ◌+◌, ◌==◌, ◌∷◌}
use Rattle.emtp_fix.specs.Chain.{unless}
use Rattle.emtp_card.specs.Lines.{is_section_end}
use Rattle.emtp_card.specs.declared.reason.Bad.{Bad}
use Rattle.emtp_case.specs.declared.branch.Point.{Point}
use Rattle.emtp_case.specs.declared.control.DeviceCode.{DeviceCode}
use Rattle.emtp_case.specs.declared.control.DeviceCode.TheVariants.{Table, Window}
use Rattle.emtp_walk.specs.Answer.{go_on}
use Rattle.emtp_walk.specs.Coefficients.{divided_bad}
use Rattle.emtp_walk.specs.LineRead.{Read, order_fault, place_of}
use Rattle.emtp_walk.specs.declared.control_cards.BlockEntry.{BlockEntry}
use Rattle.emtp_walk.specs.declared.control_cards.ControlCards.{ControlCards}
use Rattle.emtp_walk.specs.declared.control_cards.ControlPlace.{ControlPlace}
use Rattle.emtp_walk.specs.declared.control_cards.ControlPlace.TheVariants.{Blocks, Denominator, DevicePoints, Extras, Initial, Numerator, TacsOutputs, TacsSources}
use Rattle.emtp_walk.specs.declared.control_cards.DeviceGroup.{DeviceGroup}
use Rattle.emtp_walk.specs.declared.control_cards.ExtraEntry.{ExtraEntry}
use Rattle.emtp_walk.specs.declared.control_cards.ExtraEntry.TheVariants.{Device as DeviceEntry, Formula as FormulaEntry}
use Rattle.emtp_walk.specs.declared.deck.Deck.{Deck}
use Rattle.emtp_walk.specs.declared.deck.Place.{Place}
use Rattle.emtp_walk.specs.declared.deck.Place.TheVariants.{Branches, Control}
use Rattle.emtp_netcards.specs.PointCard.{next_point}
use Rattle.emtp_netcards.specs.declared.point_card.PointScale.{PointScale}
use Rattle.emtp_netcards.specs.declared.point_card.PointScale.TheVariants.{Table as TableScale, Times as TimesScale}
use Rattle.emtp_netcards.specs.declared.source_card.SourceCard.{SourceCard}
use Rattle.emtp_taccards.specs.BlockCard.{block_card}
use Rattle.emtp_taccards.specs.ExtraCard.{extra_card}
use Rattle.emtp_taccards.specs.PolynomialCard.{polynomial_card}
use Rattle.emtp_taccards.specs.TacsOutputCard.{tacs_output_card}
use Rattle.emtp_taccards.specs.TacsSourceCard.{tacs_source_card}
use Rattle.emtp_taccards.specs.declared.block_card.BlockCard.{BlockCard}
use Rattle.emtp_taccards.specs.declared.device_card.DeviceCard.{DeviceCard}
use Rattle.emtp_taccards.specs.declared.extra_card.ExtraCard.{ExtraCard}
use Rattle.emtp_taccards.specs.declared.extra_card.ExtraCard.TheVariants.{Device as DeviceOf, Formula as FormulaOf}

abbrev pub no_control : ControlCards
no_control = record { blocks = []; sources = []; extras = []; outputs = [] }

-- ---- blocks

abbrev pub keep_block : Deck → BlockEntry → Deck × Place
keep_block deck entry =
    (record deck { control = record deck.control { blocks = deck.control.blocks ++ entry ∷ [] } }, Control Blocks)

-- a block of order 0 has no coefficients; those of another one are due
abbrev pub take_block : Deck → BlockCard → Deck × Place
take_block deck card =
    if card.order == 0 then keep_block deck
    (record { card = card; top = replicate 8 (pos 0); bottom = replicate 8 (pos 0) })
    else (deck, Control (Numerator card))

unfoldable pub block_step : Deck → ℕ → List ℕ → Read
block_step deck number line =
    if is_section_end line then Ok (deck, Control TacsSources)
    else go_on (λ (card : BlockCard). Ok (take_block deck card)) (block_card number line)

unfoldable pub numerator_step : Deck → ℕ → List ℕ → BlockCard → Read
numerator_step deck number line card =
    go_on (λ (top : List ℤ). Ok (deck, Control (Denominator card top number)))
    (polynomial_card number line card.order deck.run.dt)

abbrev pub with_denominator : Deck → ℕ → BlockEntry → ℕ → Read
with_denominator deck number entry top_line = unless (divided_bad deck.run.dt entry top_line number) (λ bad. bad) (Ok (keep_block deck entry))

-- the faults that need both cards come after those of the denominator
unfoldable pub denominator_step : Deck → ℕ → List ℕ → BlockCard → List ℤ → ℕ → Read
denominator_step deck number line card top top_line =
    go_on (λ (bottom : List ℤ). with_denominator deck number (record { card = card; top = top; bottom = bottom })
    top_line) (polynomial_card number line card.order deck.run.dt)

-- ---- sources

abbrev pub with_tacs_source : Deck → SourceCard → Deck
with_tacs_source deck card = record deck { control = record deck.control { sources = deck.control.sources ++ card ∷ [] } }

unfoldable pub tacs_source_step : Deck → ℕ → List ℕ → Read
tacs_source_step deck number line =
    if is_section_end line then Ok (deck, Control Extras)
    else go_on (λ (card : SourceCard). Ok (with_tacs_source deck card, Control TacsSources)) (tacs_source_card number line)

-- ---- supplemental cards

abbrev pub keep_extra : Deck → ExtraEntry → Deck × Place
keep_extra deck entry =
    (record deck { control = record deck.control { extras = deck.control.extras ++ entry ∷ [] } }, Control Extras)

-- points follow a table, and times a window
abbrev pub points_follow : DeviceCode → Bool
points_follow Table = true
points_follow Window = true
points_follow other = false

abbrev pub take_device : Deck → DeviceCard → Deck × Place
take_device deck card =
    if points_follow card.code
    then (deck, Control (DevicePoints (record { card = card; first = length deck.points; count = 0; before = None })))
    else keep_extra deck (DeviceEntry card 0 0)

abbrev pub take_extra : Deck → ExtraCard → Deck × Place
take_extra deck (DeviceOf card) = take_device deck card
take_extra deck (FormulaOf card) = keep_extra deck (FormulaEntry card)

unfoldable pub extra_step : Deck → ℕ → List ℕ → Read
extra_step deck number line =
    if is_section_end line then Ok (deck, Control TacsOutputs)
    else go_on (λ (card : ExtraCard). Ok (take_extra deck card)) (extra_card number line)

abbrev pub device_scale : DeviceCode → PointScale
device_scale Window = TimesScale
device_scale other = TableScale

abbrev pub take_device_point : Deck → DeviceGroup → Point → Deck × Place
take_device_point deck group point = (
  record deck { points = deck.points ++ point ∷ [] },
  Control
      (DevicePoints (record group { count = group.count + 1; before = Some point })),
)

abbrev pub end_device : Deck → DeviceGroup → Deck × Place
end_device deck group = keep_extra deck (DeviceEntry group.card group.first group.count)

abbrev pub device_point_or_end : Deck → DeviceGroup → Option Point → Deck × Place
device_point_or_end deck group (Some point) = take_device_point deck group point
device_point_or_end deck group None = end_device deck group

unfoldable pub device_point_step : Deck → ℕ → List ℕ → DeviceGroup → Read
device_point_step deck number line group =
    go_on (λ (point : Option Point). Ok (device_point_or_end deck group point))
    (next_point number line (device_scale group.card.code) group.before group.count deck.run.dt)

-- ---- outputs and initial conditions

abbrev pub with_tacs_output : Deck → ℕ → List (Option (List ℕ)) → Deck
with_tacs_output deck number names =
    record deck {
      control = record deck.control
          { outputs = deck.control.outputs ++ (record { line = number; names = names }) ∷ [] };
    }

unfoldable pub tacs_output_step : Deck → ℕ → List ℕ → Read
tacs_output_step deck number line =
    if is_section_end line then Ok (deck, Control Initial)
    else go_on (λ (names : List (Option (List ℕ))). Ok (with_tacs_output deck number names, Control TacsOutputs))
    (tacs_output_card number line)

-- no card gives an initial condition
unfoldable pub initial_place : ℕ → List ℕ → Result Place Bad
initial_place number line =
    if is_section_end line then Ok (Branches false) else unless (order_fault number line) (λ bad. bad) (Ok (Branches false))

-- ---- all places

abbrev pub control_step : Deck → ℕ → List ℕ → ControlPlace → Read
control_step deck number line Blocks = block_step deck number line
control_step deck number line (Numerator card) = numerator_step deck number line card
control_step deck number line (Denominator card top top_line) = denominator_step deck number line card top top_line
control_step deck number line TacsSources = tacs_source_step deck number line
control_step deck number line Extras = extra_step deck number line
control_step deck number line (DevicePoints group) = device_point_step deck number line group
control_step deck number line TacsOutputs = tacs_output_step deck number line
control_step deck number line Initial = place_of deck (initial_place number line)
