-- What holds of every deck.
use Rattle.std.specs.Prelude.{◌≡◌, ◌⊎◌, ℕ, ◌+◌, ◌≤◌, true, List, [], ◌∷◌, ◌++◌, length, map, take}
use Rattle.emtp_card.specs.Lines.{is_comment}
use Rattle.emtp_walk.specs.declared.control_cards.BlockEntry.{BlockEntry}
use Rattle.emtp_walk.specs.declared.control_cards.ControlCards.{ControlCards}
use Rattle.emtp_walk.specs.declared.control_cards.ControlPlace.{ControlPlace}
use Rattle.emtp_walk.specs.declared.control_cards.ControlPlace.TheVariants.{Denominator, DevicePoints, Numerator}
use Rattle.emtp_walk.specs.declared.control_cards.ExtraEntry.{ExtraEntry}
use Rattle.emtp_walk.specs.declared.control_cards.ExtraEntry.TheVariants.{Device as DeviceEntry, Formula as FormulaEntry}
use Rattle.emtp_walk.specs.declared.control_cards.TacsOutputEntry.{TacsOutputEntry}
use Rattle.emtp_walk.specs.declared.deck.BranchEntry.{BranchEntry}
use Rattle.emtp_walk.specs.declared.deck.BranchEntry.TheVariants.{Single, Trio}
use Rattle.emtp_walk.specs.declared.deck.Deck.{Deck}
use Rattle.emtp_walk.specs.declared.deck.OutputEntry.{OutputEntry}
use Rattle.emtp_walk.specs.declared.deck.Place.{Place}
use Rattle.emtp_walk.specs.declared.deck.Place.TheVariants.{Points, Third, Waiting, Control}
use Rattle.emtp_walk.specs.Readings.{line_readings}
use Rattle.emtp_walk.specs.declared.kind.Kind.{Kind}
use Rattle.emtp_walk.specs.declared.kind.Kind.TheVariants as read
use Rattle.emtp_walk.specs.declared.kind.LineReading.{LineReading}
use Rattle.emtp_netcards.specs.declared.source_card.SourceCard.{SourceCard}
use Rattle.emtp_netcards.specs.declared.switch_card.SwitchCard.{SwitchCard}

-- ---- comments

-- the same line, or two comments
abbrev pub IsAlike : List ℕ → List ℕ → Type 0
IsAlike x y = (x ≡ y) ⊎ ((is_comment x ≡ true) × (is_comment y ≡ true))

-- the same lines, but that the text of comments may differ
abbrev pub AreAlike : List (List ℕ) → List (List ℕ) → Type 0
AreAlike [] [] = Unit {0}
AreAlike [] (y ∷ ys) = ⊥
AreAlike (x ∷ xs) [] = ⊥
AreAlike (x ∷ xs) (y ∷ ys) = IsAlike x y × AreAlike xs ys

-- ---- the order of cards

-- numbers from a bound on, each above the one before, and all below another bound
abbrev pub Rises : ℕ → List ℕ → ℕ → Type 0
Rises low [] high = low ≤ high
Rises low (n ∷ ns) high = (low ≤ n) × Rises (n + 1) ns high

abbrev pub entry_lines : BranchEntry → List ℕ
entry_lines (Single card first count) = card.line ∷ []
entry_lines (Trio zero' positive third) = zero'.line ∷ positive.line ∷ third.line ∷ []

abbrev pub branch_lines : List BranchEntry → List ℕ
branch_lines [] = []
branch_lines (e ∷ es) = entry_lines e ++ branch_lines es

abbrev pub extra_line : ExtraEntry → ℕ
extra_line (DeviceEntry card first count) = card.line
extra_line (FormulaEntry card) = card.line

abbrev pub control_lines : ControlCards → List ℕ
control_lines cards =
    map (λ (e : BlockEntry). e.card.line) cards.blocks
    ++ map (λ (card : SourceCard). card.line) cards.sources
    ++ map extra_line cards.extras
    ++ map (λ (e : TacsOutputEntry). e.line) cards.outputs

abbrev pub pending_control_lines : ControlPlace → List ℕ
pending_control_lines (Numerator card) = card.line ∷ []
pending_control_lines (Denominator card top line) = card.line ∷ []
pending_control_lines (DevicePoints group) = group.card.line ∷ []
pending_control_lines other = []

-- the cards of a group that isn't ended
abbrev pub pending_lines : Place → List ℕ
pending_lines (Control at) = pending_control_lines at
pending_lines (Points group) = group.card.line ∷ []
pending_lines (Waiting card wide) = card.line ∷ []
pending_lines (Third zero' positive wide) = zero'.line ∷ positive.line ∷ []
pending_lines other = []

abbrev pub switch_lines : List SwitchCard → List ℕ
switch_lines cards = map (λ (card : SwitchCard). card.line) cards

abbrev pub source_lines : List SourceCard → List ℕ
source_lines cards = map (λ (card : SourceCard). card.line) cards

abbrev pub output_lines : List OutputEntry → List ℕ
output_lines entries = map (λ (entry : OutputEntry). entry.line) entries

-- the lines of the cards in the order in which their sense is judged
abbrev pub card_lines : Deck → Place → List ℕ
card_lines deck place =
    control_lines deck.control ++ branch_lines deck.branches ++ pending_lines place ++ switch_lines deck.switches
    ++ source_lines deck.sources ++ output_lines deck.outputs

-- ---- as what lines are read

-- the lines of cards, list by list
pub record CardLines : Type 0 where
  pub blocks : List ℕ
  pub tacs_sources : List ℕ
  pub extras : List ℕ
  pub tacs_outputs : List ℕ
  pub branches : List ℕ
  pub switches : List ℕ
  pub sources : List ℕ
  pub outputs : List ℕ

abbrev pub no_cards : CardLines
no_cards = record {
  blocks = [];
  tacs_sources = [];
  extras = [];
  tacs_outputs = [];
  branches = [];
  switches = [];
  sources = [];
  outputs = [];
}

-- the number of a line that is read as a card stands behind those that are read so; any other line adds nothing
abbrev pub with_line : ℕ → Kind → CardLines → CardLines
with_line number read.Block lines = record lines { blocks = lines.blocks ++ number ∷ [] }
with_line number read.TacsSource lines = record lines { tacs_sources = lines.tacs_sources ++ number ∷ [] }
with_line number read.Extra lines = record lines { extras = lines.extras ++ number ∷ [] }
with_line number read.TacsOutput lines = record lines { tacs_outputs = lines.tacs_outputs ++ number ∷ [] }
with_line number (read.Branch wide) lines = record lines { branches = lines.branches ++ number ∷ [] }
with_line number read.Switch lines = record lines { switches = lines.switches ++ number ∷ [] }
with_line number read.Source lines = record lines { sources = lines.sources ++ number ∷ [] }
with_line number read.Output lines = record lines { outputs = lines.outputs ++ number ∷ [] }
with_line number other lines = lines

-- behind some cards those of the lines from a number on, by as what each is read
abbrev pub cards_read : CardLines → ℕ → List LineReading → CardLines
cards_read lines number [] = lines
cards_read lines number (reading ∷ readings) = cards_read (with_line number reading.kind lines) (number + 1) readings

-- the block cards, the device cards and the branch cards that wait at a place for the cards behind them
abbrev pub pending_blocks : Place → List ℕ
pending_blocks (Control (Numerator card)) = card.line ∷ []
pending_blocks (Control (Denominator card top line)) = card.line ∷ []
pending_blocks other = []

abbrev pub pending_devices : Place → List ℕ
pending_devices (Control (DevicePoints group)) = group.card.line ∷ []
pending_devices other = []

abbrev pub pending_branches : Place → List ℕ
pending_branches (Points group) = group.card.line ∷ []
pending_branches (Waiting card wide) = card.line ∷ []
pending_branches (Third zero' positive wide) = zero'.line ∷ positive.line ∷ []
pending_branches other = []

-- the lines of the cards of a deck, those that wait too
abbrev pub lines_by_list : Deck → Place → CardLines
lines_by_list deck place = record {
  blocks = map (λ (e : BlockEntry). e.card.line) deck.control.blocks ++ pending_blocks place;
  tacs_sources = source_lines deck.control.sources;
  extras = map extra_line deck.control.extras ++ pending_devices place;
  tacs_outputs = map (λ (e : TacsOutputEntry). e.line) deck.control.outputs;
  branches = branch_lines deck.branches ++ pending_branches place;
  switches = switch_lines deck.switches;
  sources = source_lines deck.sources;
  outputs = output_lines deck.outputs;
}

-- the cards of a deck are those of the lines that are read so, list by list; and there is one reading more than lines, for
-- what is due behind the last
pub record AreRead (lines : List (List ℕ)) (deck : Deck) (place : Place) : Type 0 where
  pub count : length (line_readings lines) ≡ length lines + 1
  pub cards : lines_by_list deck place ≡ cards_read no_cards 1 (take (length lines) (line_readings lines))
