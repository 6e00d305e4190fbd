-- What the cards of a deck keep at each place of the walk.
use Rattle.emtp_case.specs.declared.limit.TheConstants.{MOST_POINTS}
use Rattle.std.specs.Prelude.{◌≡◌, ℕ, ◌+◌, ◌≤◌, ℤ, All, List, [], ◌∷◌, Bool, true, false, drop, length, slice_index_or, Some, Ok, None, Option, suc, zero, ◌<◌, slice_get}
use Rattle.emtp_case.specs.Branch.{origin, points_of}
use Rattle.emtp_case.specs.held.Branch.{IsCharacteristic}
use Rattle.emtp_case.specs.held.Control.{HasDevicePoints}
use Rattle.emtp_case.specs.held.Name.{IsName}
use Rattle.emtp_case.specs.held.RunData.{IsRun}
use Rattle.emtp_case.specs.declared.branch.Point.{Point}
use Rattle.emtp_case.specs.declared.run_data.RunData.{RunData}
use Rattle.emtp_walk.specs.held.Coefficients.{IsBlockDue, IsBlockEntry}
use Rattle.emtp_walk.specs.ControlSteps.{device_scale, no_control, points_follow}
use Rattle.emtp_walk.specs.Walk.{is_phase, scale_of}
use Rattle.emtp_walk.specs.declared.control_cards.ControlCards.{ControlCards}
use Rattle.emtp_walk.specs.declared.control_cards.ControlPlace.{ControlPlace}
use Rattle.emtp_walk.specs.declared.control_cards.ControlPlace.TheVariants.{Denominator, DevicePoints, Numerator}
use Rattle.emtp_walk.specs.declared.control_cards.DeviceGroup.{DeviceGroup}
use Rattle.emtp_walk.specs.declared.control_cards.ExtraEntry.{ExtraEntry}
use Rattle.emtp_walk.specs.declared.control_cards.ExtraEntry.TheVariants.{Device as DeviceEntry, Formula as FormulaEntry}
use Rattle.emtp_walk.specs.declared.deck.BranchEntry.{BranchEntry}
use Rattle.emtp_walk.specs.declared.deck.BranchEntry.TheVariants.{Single, Trio}
use Rattle.emtp_walk.specs.declared.deck.Deck.{Deck}
use Rattle.emtp_walk.specs.declared.deck.Group.{Group}
use Rattle.emtp_walk.specs.declared.deck.Place.{Place}
use Rattle.emtp_walk.specs.declared.deck.Place.TheVariants.{Begin, First, Points, Second, Third, Waiting, Control}
use Rattle.emtp_netcards.specs.held.BranchCard.{HasNumbers, kind_of_values}
use Rattle.emtp_netcards.specs.PointCard.{origin_or}
use Rattle.emtp_netcards.specs.held.PointCard.{IsPointOf, Follows}
use Rattle.emtp_netcards.specs.held.SourceCard.{HasSourceCardNumbers}
use Rattle.emtp_netcards.specs.held.SwitchCard.{HasSwitchNumbers}
use Rattle.emtp_netcards.specs.declared.branch_card.BranchCard.{BranchCard}
use Rattle.emtp_netcards.specs.declared.branch_card.BranchKind.TheVariants.{Line as LineKind, Second as SecondKind}
use Rattle.emtp_netcards.specs.declared.branch_card.BranchValues.{BranchValues}
use Rattle.emtp_netcards.specs.declared.branch_card.BranchValues.TheVariants.{Reactor as ReactorCard, Resistor as ResistorCard}
use Rattle.emtp_netcards.specs.declared.point_card.PointScale.{PointScale}
use Rattle.emtp_netcards.specs.declared.source_card.SourceCard.{SourceCard}
use Rattle.emtp_taccards.specs.held.DeviceCard.{HasDeviceNumbers, HasItsD}
use Rattle.emtp_taccards.specs.held.FormulaCard.{IsParsed}
use Rattle.emtp_taccards.specs.held.PolynomialCard.{IsPolynomial}
use Rattle.emtp_taccards.specs.held.TacsSourceCard.{HasTacsSourceNumbers}
use Rattle.emtp_taccards.specs.declared.block_card.BlockCard.{BlockCard}
use Rattle.emtp_taccards.specs.declared.device_card.DeviceCard.{DeviceCard}
use Rattle.emtp_taccards.specs.declared.extra_card.ExtraCard.{ExtraCard}
use Rattle.emtp_taccards.specs.declared.extra_card.ExtraCard.TheVariants.{Device as DeviceOf, Formula as FormulaOf}
use Rattle.emtp_taccards.specs.declared.formula_card.FormulaCard.{FormulaCard}

-- ---- entries

abbrev pub is_pseudo : BranchValues → Bool
is_pseudo ReactorCard = true
is_pseudo ResistorCard = true
is_pseudo other = false

abbrev pub is_reactor : BranchValues → Bool
is_reactor ReactorCard = true
is_reactor other = false

-- points follow a pseudo-nonlinear branch; a card that takes the values of another has none
abbrev pub has_points : BranchCard → Bool
has_points card = is_pseudo card.values

-- so many points from a place on make a characteristic
pub record ArePoints (reactor : Bool) (dt : ℤ) (points : List Point) (first count : ℕ) : Type 0 where
  pub some : 1 ≤ count
  pub few : count ≤ MOST_POINTS
  pub there : first + count ≤ length points
  pub characteristic : IsCharacteristic reactor dt (points_of points first count)

-- a card of one branch, no phase of three
pub record IsSingleEntry (run : RunData) (points : List Point) (card : BranchCard) (first count : ℕ) : Type 0 where
  pub numbers : HasNumbers run.dt card
  pub kind : is_phase (Ok (kind_of_values card.values)) ≡ false
  pub there : first + count ≤ length points
  pub group : has_points card ≡ true → ArePoints (is_reactor card.values) run.dt points first count

pub record IsTrioEntry (run : RunData) (zero' positive : BranchCard) : Type 0 where
  pub zero_numbers : HasNumbers run.dt zero'
  pub zero_kind : kind_of_values zero'.values ≡ LineKind
  pub positive_numbers : HasNumbers run.dt positive
  pub positive_kind : kind_of_values positive.values ≡ SecondKind

abbrev pub IsEntry : RunData → List Point → BranchEntry → Type 0
IsEntry run points (Single card first count) = IsSingleEntry run points card first count
IsEntry run points (Trio zero' positive third) = IsTrioEntry run zero' positive × HasNumbers run.dt third

-- a source of the control, its name not resolved
pub record IsTacsSourceCard (card : SourceCard) : Type 0 where
  pub name : IsName card.name
  pub numbers : HasTacsSourceNumbers card

-- a supplemental card that was read, before its points
pub record IsDeviceDue (card : DeviceCard) : Type 0 where
  pub name : IsName card.name
  pub numbers : HasDeviceNumbers card
  pub d : HasItsD card

pub record IsFormulaCard (card : FormulaCard) : Type 0 where
  pub name : IsName card.name
  pub parsed : IsParsed card.parsed

abbrev pub IsExtraDue : ExtraCard → Type 0
IsExtraDue (DeviceOf card) = IsDeviceDue card
IsExtraDue (FormulaOf card) = IsFormulaCard card

pub record IsDeviceEntry (points : List Point) (card : DeviceCard) (first count : ℕ) : Type 0 where
  pub due : IsDeviceDue card
  pub there : first + count ≤ length points
  pub few : count ≤ MOST_POINTS
  pub fit : HasDevicePoints card.code (points_of points first count)

abbrev pub IsExtraEntry : List Point → ExtraEntry → Type 0
IsExtraEntry points (DeviceEntry card first count) = IsDeviceEntry points card first count
IsExtraEntry points (FormulaEntry card) = IsFormulaCard card

-- what the cards of the control keep
pub record IsControlWhole (dt : ℤ) (points : List Point) (cards : ControlCards) : Type 0 where
  pub blocks : All (IsBlockEntry dt) cards.blocks
  pub sources : All IsTacsSourceCard cards.sources
  pub extras : All (IsExtraEntry points) cards.extras

-- what all cards keep
pub record IsWhole (deck : Deck) : Type 0 where
  pub run : IsRun deck.run
  pub control : IsControlWhole deck.run.dt deck.points deck.control
  pub branches : All (IsEntry deck.run deck.points) deck.branches
  pub switches : All HasSwitchNumbers deck.switches
  pub sources : All HasSourceCardNumbers deck.sources

-- ---- places

-- before the branches no card is kept
pub record IsHead (deck : Deck) : Type 0 where
  pub run : IsRun deck.run
  pub control : deck.control ≡ no_control
  pub branches : deck.branches ≡ []
  pub switches : deck.switches ≡ []
  pub sources : deck.sources ≡ []

-- the points of a group so far are the last ones of the deck, and make a characteristic
pub record IsGroupOf (deck : Deck) (group : Group) : Type 0 where
  pub numbers : HasNumbers deck.run.dt group.card
  pub pseudo : is_pseudo group.card.values ≡ true
  pub few : group.count ≤ MOST_POINTS
  pub there : group.first + group.count ≡ length deck.points
  pub before : origin_or group.before ≡ slice_index_or (origin ∷ drop group.first deck.points) group.count origin
  pub point : (p : Point) → group.before ≡ Some p → IsPointOf (scale_of group) p
  pub characteristic : IsCharacteristic (is_reactor group.card.values) deck.run.dt (drop group.first deck.points)

-- a card -1 that waits
pub record IsWaiting (deck : Deck) (card : BranchCard) : Type 0 where
  pub numbers : HasNumbers deck.run.dt card
  pub kind : kind_of_values card.values ≡ LineKind

-- the point before one of a group
abbrev pub before_at : List Point → ℕ → Option Point
before_at points zero = None
before_at points (suc k) = slice_get points k

-- each point of a table, or each pair of times, follows the one before
abbrev pub AreInTurn : PointScale → ℤ → List Point → Type 0
AreInTurn scale dt points = (k : ℕ) → k < length points → Follows scale dt (before_at points k) (slice_index_or points k origin)

-- the points of a table or the times of a window so far are the last points of the deck
pub record IsDeviceGroup (deck : Deck) (group : DeviceGroup) : Type 0 where
  pub card : IsDeviceDue group.card
  pub follow : points_follow group.card.code ≡ true
  pub few : group.count ≤ MOST_POINTS
  pub there : group.first + group.count ≡ length deck.points
  pub before : group.before ≡ before_at (drop group.first deck.points) group.count
  pub points : All (IsPointOf (device_scale group.card.code)) (drop group.first deck.points)
  pub turn : AreInTurn (device_scale group.card.code) deck.run.dt (drop group.first deck.points)

-- the numerator of a block, which waits for the denominator
pub record IsNumerator (deck : Deck) (card : BlockCard) (top : List ℤ) : Type 0 where
  pub due : IsBlockDue card
  pub polynomial : IsPolynomial deck.run.dt card.order top

abbrev pub IsControlSound : Deck → ControlPlace → Type 0
IsControlSound deck (Numerator card) = IsWhole deck × IsBlockDue card
IsControlSound deck (Denominator card top line) = IsWhole deck × IsNumerator deck card top
IsControlSound deck (DevicePoints group) = IsWhole deck × IsDeviceGroup deck group
IsControlSound deck other = IsWhole deck

abbrev pub IsSound : Deck → Place → Type 0
IsSound deck Begin = IsHead deck
IsSound deck (First seen) = IsHead deck
IsSound deck Second = IsHead deck
IsSound deck (Control at) = IsControlSound deck at
IsSound deck (Points group) = IsWhole deck × IsGroupOf deck group
IsSound deck (Waiting card wide) = IsWhole deck × IsWaiting deck card
IsSound deck (Third zero' positive wide) = IsWhole deck × IsTrioEntry deck.run zero' positive
IsSound deck other = IsWhole deck
