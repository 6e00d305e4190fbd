-- The walk over the lines of a case: each line has its place, and gives its card and the place of the next line, or the
-- least fault of the line. The first line that has a fault decides.
use Rattle.std.specs.List.{starts_with}
use Rattle.std.specs.Prelude.{ℕ, ◌+◌, ◌^◌, ℤ, pos, nat_eq, Bool, true, false, List, [], ◌∷◌, ◌++◌, length, codes, Option, Some, None, Result, Ok, Err, if◌then◌else◌}
use Rattle.std.specs.Str.Lines.{lines}
use Rattle.emtp_fix.specs.Chain.{unless}
use Rattle.emtp_card.specs.Fault.{judge}
use Rattle.emtp_card.specs.Lines.{is_comment, is_section_end}
use Rattle.emtp_card.specs.declared.reason.Bad.{Bad}
use Rattle.emtp_card.specs.declared.reason.Why.{Why}
use Rattle.emtp_card.specs.declared.reason.Why.TheVariants.{BadOrder}
use Rattle.emtp_case.specs.declared.branch.Point.{Point}
use Rattle.emtp_walk.specs.Answer.{go_on}
use Rattle.emtp_walk.specs.ControlSteps.{control_step, no_control}
use Rattle.emtp_walk.specs.LineRead.{Read, order_fault, place_of}
use Rattle.emtp_walk.specs.declared.control_cards.ControlPlace.TheVariants.{Blocks}
use Rattle.emtp_walk.specs.declared.deck.BranchEntry.TheVariants.{Single, Trio}
use Rattle.emtp_walk.specs.declared.deck.Deck.{Deck}
use Rattle.emtp_walk.specs.declared.deck.Group.{Group}
use Rattle.emtp_walk.specs.declared.deck.Place.{Place}
use Rattle.emtp_walk.specs.declared.deck.Place.TheVariants.{After, Begin, Branches, First, Outputs, Points, Second, Sources, Start, Switches, Third, Waiting, Control}
use Rattle.emtp_netcards.specs.BranchCard.{branch_card, kind_field}
use Rattle.emtp_netcards.specs.OutputCard.{output_card}
use Rattle.emtp_netcards.specs.PointCard.{next_point}
use Rattle.emtp_netcards.specs.RunCards.{first_card, second_card, tolerance_card}
use Rattle.emtp_netcards.specs.SourceCard.{source_card}
use Rattle.emtp_netcards.specs.SwitchCard.{switch_card}
use Rattle.emtp_netcards.specs.VintageCard.{is_vintage, vintage_card}
use Rattle.emtp_netcards.specs.declared.branch_card.BranchCard.{BranchCard}
use Rattle.emtp_netcards.specs.declared.branch_card.BranchKind.{BranchKind}
use Rattle.emtp_netcards.specs.declared.branch_card.BranchKind.TheVariants.{Line as LineKind, Second as SecondKind, Third as ThirdKind}
use Rattle.emtp_netcards.specs.declared.branch_card.BranchValues.{BranchValues}
use Rattle.emtp_netcards.specs.declared.branch_card.BranchValues.TheVariants.{Copied as CopiedCard, Line as LineCard, Reactor as ReactorCard, Resistor as ResistorCard}
use Rattle.emtp_netcards.specs.declared.output_card.OutputCard.{OutputCard}
use Rattle.emtp_netcards.specs.declared.point_card.PointScale.{PointScale}
use Rattle.emtp_netcards.specs.declared.point_card.PointScale.TheVariants.{Reactor as OfReactor, Resistor as OfResistor}
use Rattle.emtp_netcards.specs.declared.run_cards.FirstCard.{FirstCard}
use Rattle.emtp_netcards.specs.declared.source_card.SourceCard.{SourceCard}
use Rattle.emtp_netcards.specs.declared.switch_card.SwitchCard.{SwitchCard}

abbrev pub empty_deck : Deck
empty_deck = record {
  run = record { dt = pos 1000; steps = 1; every = 1; tolerance = pos (10 ^ 7) };
  second = 0;
  control = no_control;
  branches = [];
  points = [];
  switches = [];
  sources = [];
  outputs = [];
}

-- ---- in front of the sections and behind them

abbrev pub begin_fault : ℕ → List ℕ → Option Bad
begin_fault number line =
    if starts_with nat_eq line (codes "BEGIN NEW DATA CASE") then judge number line None else order_fault number line

unfoldable pub begin_place : ℕ → List ℕ → Result Place Bad
begin_place number line = if is_section_end line then Ok Begin else unless (begin_fault number line) (λ bad. bad) (Ok (First false))

-- at most one more BEGIN NEW DATA CASE may stand behind the sections
unfoldable pub after_place : ℕ → List ℕ → Bool → Result Place Bad
after_place number line seen =
    if is_section_end line then Ok (After seen)
    else unless (if seen then order_fault number line else begin_fault number line) (λ bad. bad) (Ok (After true))

-- ---- miscellaneous cards

unfoldable pub tolerance_step : Deck → ℕ → List ℕ → Bool → Read
tolerance_step deck number line seen =
    if seen then unless (order_fault number line) (λ bad. bad) (Ok (deck, First true))
    else go_on (λ (z : ℤ). Ok (record deck { run = record deck.run { tolerance = z } }, First true)) (tolerance_card number line)

unfoldable pub times_step : Deck → ℕ → List ℕ → Read
times_step deck number line =
    go_on (λ (card : FirstCard). Ok
    (record deck { run = record deck.run { dt = card.dt; steps = card.steps } }, Second)) (first_card number line)

unfoldable pub first_step : Deck → ℕ → List ℕ → Bool → Read
first_step deck number line seen =
    if starts_with nat_eq line (codes "RESIDUAL TOLERANCE") then tolerance_step deck number line seen
    else times_step deck number line

unfoldable pub second_step : Deck → ℕ → List ℕ → Read
second_step deck number line =
    go_on (λ (every : ℕ). Ok (record deck { run = record deck.run { every = every }; second = number }, Start))
    (second_card number line)

-- ---- branches

-- a branch that no points follow
abbrev pub with_card : Deck → BranchCard → Deck
with_card deck card = record deck { branches = deck.branches ++ Single card 0 0 ∷ [] }

abbrev pub points_follow : Deck → BranchCard → Bool → Deck × Place
points_follow deck card wide =
    (deck, Points (record { card = card; first = length deck.points; count = 0; before = None; wide = wide }))

-- no points follow a card that takes the values of another
abbrev pub take_copied : Deck → BranchCard → Bool → BranchKind → Deck × Place
take_copied deck card wide LineKind = (deck, Waiting card wide)
take_copied deck card wide other = (with_card deck card, Branches wide)

-- points follow a pseudo-nonlinear branch; a line waits for the card after it, which may be its second phase
abbrev pub take_values : Deck → BranchCard → Bool → BranchValues → Deck × Place
take_values deck card wide (LineCard zc r delay) = (deck, Waiting card wide)
take_values deck card wide ReactorCard = points_follow deck card wide
take_values deck card wide ResistorCard = points_follow deck card wide
take_values deck card wide (CopiedCard kind a b) = take_copied deck card wide kind
take_values deck card wide other = (with_card deck card, Branches wide)

abbrev pub take_branch : Deck → BranchCard → Bool → Deck × Place
take_branch deck card wide = take_values deck card wide card.values

-- the second and the third phase of a line stand after its first alone
abbrev pub is_phase : Result BranchKind Why → Bool
is_phase (Ok SecondKind) = true
is_phase (Ok ThirdKind) = true
is_phase other = false

abbrev pub is_second : Result BranchKind Why → Bool
is_second (Ok SecondKind) = true
is_second other = false

unfoldable pub card_step : Deck → ℕ → List ℕ → Bool → Read
card_step deck number line wide =
    if is_phase (kind_field line) then unless (order_fault number line) (λ bad. bad) (Ok (deck, Branches wide))
    else go_on (λ (card : BranchCard). Ok (take_branch deck card wide)) (branch_card number line deck.run.dt wide)

-- a vintage card says how wide the fields of the series branches after it are
abbrev pub vintage_or : Deck → Option (Result Bool Bad) → Read → Read
vintage_or deck None card = card
vintage_or deck (Some width) card = go_on (λ (wide : Bool). Ok (deck, Branches wide)) width

unfoldable pub branch_step : Deck → ℕ → List ℕ → Bool → Read
branch_step deck number line wide =
    if is_section_end line then Ok (deck, Switches)
    else vintage_or deck (vintage_card number line) (card_step deck number line wide)

-- the card after a card -1: its second phase, or what comes after a line
unfoldable pub waiting_step : Deck → ℕ → List ℕ → BranchCard → Bool → Read
waiting_step deck number line card wide =
    if is_second (kind_field line)
    then go_on (λ (positive : BranchCard). Ok (deck, Third card positive wide))
    (branch_card number line deck.run.dt wide)
    else branch_step (with_card deck card) number line wide

abbrev pub with_trio : Deck → BranchCard → BranchCard → BranchCard → Deck
with_trio deck zero' positive third = record deck { branches = deck.branches ++ Trio zero' positive third ∷ [] }

abbrev pub take_third : Deck → ℕ → List ℕ → BranchCard → BranchCard → Bool → Read
take_third deck number line zero' positive wide =
    go_on (λ (third : BranchCard). Ok (with_trio deck zero' positive third, Branches wide))
    (branch_card number line deck.run.dt wide)

-- the card after a card -2: its third phase alone; a type that isn't known is refused as such, but a vintage card has none
abbrev pub third_by : Deck → ℕ → List ℕ → BranchCard → BranchCard → Bool → Result BranchKind Why → Read
third_by deck number line zero' positive wide (Ok ThirdKind) = take_third deck number line zero' positive wide
third_by deck number line zero' positive wide (Ok other) = unless (order_fault number line) (λ bad. bad) (Ok (deck, Branches wide))
third_by deck number line zero' positive wide (Err why) =
    if is_vintage line then unless (order_fault number line) (λ bad. bad) (Ok (deck, Branches wide))
    else take_third deck number line zero' positive wide

unfoldable pub third_step : Deck → ℕ → List ℕ → BranchCard → BranchCard → Bool → Read
third_step deck number line zero' positive wide =
    if is_section_end line then Err (record { line = number; column = 1; why = BadOrder })
    else third_by deck number line zero' positive wide (kind_field line)

-- ---- points

abbrev pub scale_by : BranchValues → PointScale
scale_by ReactorCard = OfReactor
scale_by other = OfResistor

abbrev pub scale_of : Group → PointScale
scale_of group = scale_by group.card.values

abbrev pub take_point : Deck → Group → Point → Deck × Place
take_point deck group point =
    (record deck { points = deck.points ++ point ∷ [] }, Points (record group { count = group.count + 1; before = Some point }))

abbrev pub end_group : Deck → Group → Deck × Place
end_group deck group =
    (record deck { branches = deck.branches ++ Single group.card group.first group.count ∷ [] }, Branches group.wide)

abbrev pub point_or_end : Deck → Group → Option Point → Deck × Place
point_or_end deck group (Some point) = take_point deck group point
point_or_end deck group None = end_group deck group

unfoldable pub point_step : Deck → ℕ → List ℕ → Group → Read
point_step deck number line group =
    go_on (λ (point : Option Point). Ok (point_or_end deck group point))
    (next_point number line (scale_of group) group.before group.count deck.run.dt)

-- ---- switches, sources, outputs

unfoldable pub switch_step : Deck → ℕ → List ℕ → Read
switch_step deck number line =
    if is_section_end line then Ok (deck, Sources)
    else go_on (λ (card : SwitchCard). Ok (record deck { switches = deck.switches ++ card ∷ [] }, Switches))
    (switch_card number line)

unfoldable pub source_step : Deck → ℕ → List ℕ → Read
source_step deck number line =
    if is_section_end line then Ok (deck, Outputs)
    else go_on (λ (card : SourceCard). Ok (record deck { sources = deck.sources ++ card ∷ [] }, Sources))
    (source_card number line)

unfoldable pub output_step : Deck → ℕ → List ℕ → Read
output_step deck number line =
    if is_section_end line then Ok (deck, After false)
    else go_on (λ (card : OutputCard). Ok
    (record deck { outputs = deck.outputs ++ (record { line = number; card = card }) ∷ [] }, Outputs))
    (output_card number line)

-- the control stands right after the miscellaneous cards
unfoldable pub start_step : Deck → ℕ → List ℕ → Read
start_step deck number line =
    if starts_with nat_eq line (codes "TACS HYBRID") then unless (judge number line None) (λ bad. bad) (Ok (deck, Control Blocks))
    else branch_step deck number line false

-- ---- all lines

abbrev pub step : Deck → Place → ℕ → List ℕ → Read
step deck Begin number line = place_of deck (begin_place number line)
step deck (First seen) number line = first_step deck number line seen
step deck Second number line = second_step deck number line
step deck Start number line = start_step deck number line
step deck (Control at) number line = control_step deck number line at
step deck (Branches wide) number line = branch_step deck number line wide
step deck (Points group) number line = point_step deck number line group
step deck (Waiting card wide) number line = waiting_step deck number line card wide
step deck (Third zero' positive wide) number line = third_step deck number line zero' positive wide
step deck Switches number line = switch_step deck number line
step deck Sources number line = source_step deck number line
step deck Outputs number line = output_step deck number line
step deck (After seen) number line = place_of deck (after_place number line seen)

-- comments are skipped
abbrev pub advance : Deck → Place → ℕ → List ℕ → Read
advance deck place number line = if is_comment line then Ok (deck, place) else step deck place number line

-- the lines from a number on
abbrev pub walk : ℕ → Deck → Place → List (List ℕ) → Read
walk number deck place [] = Ok (deck, place)
walk number deck place (line ∷ lines) =
    go_on (λ (next : Deck × Place). walk (number + 1) next.0 next.1 lines) (advance deck place number line)
