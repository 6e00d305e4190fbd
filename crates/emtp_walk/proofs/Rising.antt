-- The lines of the cards so far rise: what holds of the deck at each place of the walk.
use Rattle.std.proofs.Common.{◌≡◌, sym, subst, refl, ℕ, ◌+◌, ◌≤◌, Bool, true, false, List, [], ◌∷◌, ◌++◌, Option, Some, None, Result, Ok, Err, arith, append_assoc}
use Rattle.std.specs.Prelude.{IfOk, if◌then◌else◌, map}
use Rattle.emtp_fix.specs.Chain.{unless}
use Rattle.emtp_card.specs.declared.reason.Bad.{Bad}
use Rattle.emtp_walk.specs.Answer.{go_on}
use Rattle.emtp_walk.specs.ControlSteps.{no_control}
use Rattle.emtp_walk.specs.Laws.{Rises, branch_lines, control_lines, extra_line, output_lines, source_lines, switch_lines}
use Rattle.emtp_walk.specs.LineRead.{Read, place_of}
use Rattle.emtp_walk.specs.declared.control_cards.BlockEntry.{BlockEntry}
use Rattle.emtp_walk.specs.declared.control_cards.ControlPlace.{ControlPlace}
use Rattle.emtp_walk.specs.declared.control_cards.ControlPlace.TheVariants.{Blocks, Denominator, DevicePoints, Extras, Initial, Numerator, TacsOutputs, TacsSources}
use Rattle.emtp_walk.specs.declared.deck.Deck.{Deck}
use Rattle.emtp_walk.specs.declared.deck.Place.{Place}
use Rattle.emtp_walk.specs.declared.deck.Place.TheVariants.{After, Begin, Branches, Control, First, Outputs, Points, Second, Sources, Start, Switches, Third, Waiting}
use Rattle.emtp_netcards.specs.declared.source_card.SourceCard.{SourceCard}

-- ---- numbers that rise

pub later : (low : ℕ) (ns : List ℕ) (high high' : ℕ) → high ≤ high' → Rises low ns high → Rises low ns high'
later low [] high high' l h = omega arith
later low (n ∷ ns) high high' l h = (h.0, later (n + 1) ns high high' l h.1)

pub joined : (low : ℕ) (ns ms : List ℕ) (mid high : ℕ) → Rises low ns mid → Rises mid ms high → Rises low (ns ++ ms) high
joined low [] [] mid high h k = omega (arith, h, k)
joined low [] (m ∷ ms) mid high h k = (omega (arith, h, k.0), k.1)
joined low (n ∷ ns) ms mid high h k = (h.0, joined (n + 1) ns ms mid high h.1 k)

pub one_more : (low : ℕ) (ns : List ℕ) (n : ℕ) → Rises low ns n → Rises low (ns ++ n ∷ []) (n + 1)
one_more low ns n h = joined low ns (n ∷ []) n (n + 1) h (omega arith, omega arith)

pub bounds : (low : ℕ) (ns : List ℕ) (high : ℕ) → Rises low ns high → low ≤ high
bounds low [] high h = h
bounds low (n ∷ ns) high h = let rest = bounds (n + 1) ns high h.1 in omega (arith, rest, h.0)

pub front : (low : ℕ) (ns ms : List ℕ) (high : ℕ) → Rises low (ns ++ ms) high → Rises low ns high
front low [] ms high h = bounds low ms high h
front low (n ∷ ns) ms high h = (h.0, front (n + 1) ns ms high h.1)

pub behind : (low : ℕ) (ns ms : List ℕ) (m n : ℕ) → m ≡ n → Rises low (ns ++ ms) n → Rises low (ns ++ (ms ++ m ∷ [])) (n + 1)
behind low ns ms m n e h = subst (λ ls. Rises low ls (n + 1)) (append_assoc ns ms (m ∷ [])) (subst (λ k. Rises low (ns ++ ms ++ k ∷ []) (n + 1)) (sym e) (one_more low (ns ++ ms) n h))

-- ---- what is answered

pub if_ok : {A : Type 0} (P : A → Type 0) (b : Bool) (x y : Result A Bad) → IfOk x P → IfOk y P → IfOk (if b then x else y) P
if_ok P true x y h k = h
if_ok P false x y h k = k

pub go_ok : {A : Type 0} (P : Deck × Place → Type 0) (f : A → Read) (r : Result A Bad) → ((x : A) → r ≡ Ok x → IfOk (f x) P) → IfOk (go_on f r) P
go_ok P f (Ok x) h = h x refl
go_ok P f (Err bad) h = tt

pub unless_ok : {A : Type 0} (P : A → Type 0) (bad : Option Bad) (x : A) → P x → IfOk (unless bad (λ bad. bad) (Ok x)) P
unless_ok P (Some bad) x h = tt
unless_ok P None x h = h

-- ---- the deck so far

-- the control and the branches
abbrev pub front_lines : Deck → List ℕ
front_lines deck = control_lines deck.control ++ branch_lines deck.branches

-- no card after the branches
pub record IsEarly (deck : Deck) : Type 0 where
  pub switches : deck.switches ≡ []
  pub sources : deck.sources ≡ []
  pub outputs : deck.outputs ≡ []

pub record IsHead (deck : Deck) (number : ℕ) : Type 0 where
  pub early : IsEarly deck
  pub control : deck.control ≡ no_control
  pub branches : deck.branches ≡ []
  pub second : deck.second + 1 ≤ number

pub record IsAmongBranches (deck : Deck) (pending : List ℕ) (number : ℕ) : Type 0 where
  pub early : IsEarly deck
  pub rises : Rises (deck.second + 1) (front_lines deck ++ pending) number

pub record IsAmongSwitches (deck : Deck) (number : ℕ) : Type 0 where
  pub sources : deck.sources ≡ []
  pub outputs : deck.outputs ≡ []
  pub rises : Rises (deck.second + 1) (front_lines deck ++ switch_lines deck.switches) number

pub record IsAmongSources (deck : Deck) (number : ℕ) : Type 0 where
  pub outputs : deck.outputs ≡ []
  pub rises : Rises (deck.second + 1) (front_lines deck ++ switch_lines deck.switches ++ source_lines deck.sources) number

-- the lines of the control's sections
abbrev pub block_lines : Deck → List ℕ
block_lines deck = map (λ (e : BlockEntry). e.card.line) deck.control.blocks

abbrev pub signal_lines : Deck → List ℕ
signal_lines deck = map (λ (card : SourceCard). card.line) deck.control.sources

abbrev pub extra_lines : Deck → List ℕ
extra_lines deck = map extra_line deck.control.extras

pub record IsAmongBlocks (deck : Deck) (pending : List ℕ) (number : ℕ) : Type 0 where
  pub early : IsEarly deck
  pub branches : deck.branches ≡ []
  pub signals : deck.control.sources ≡ []
  pub extras : deck.control.extras ≡ []
  pub outputs : deck.control.outputs ≡ []
  pub rises : Rises (deck.second + 1) (block_lines deck ++ pending) number

pub record IsAmongSignals (deck : Deck) (number : ℕ) : Type 0 where
  pub early : IsEarly deck
  pub branches : deck.branches ≡ []
  pub extras : deck.control.extras ≡ []
  pub outputs : deck.control.outputs ≡ []
  pub rises : Rises (deck.second + 1) (block_lines deck ++ signal_lines deck) number

pub record IsAmongExtras (deck : Deck) (pending : List ℕ) (number : ℕ) : Type 0 where
  pub early : IsEarly deck
  pub branches : deck.branches ≡ []
  pub outputs : deck.control.outputs ≡ []
  pub rises : Rises (deck.second + 1) (block_lines deck ++ signal_lines deck ++ extra_lines deck ++ pending) number

pub record IsAmongTacsOutputs (deck : Deck) (number : ℕ) : Type 0 where
  pub early : IsEarly deck
  pub branches : deck.branches ≡ []
  pub rises : Rises (deck.second + 1) (control_lines deck.control) number

abbrev pub IsAmongControl : ℕ → Deck → ControlPlace → Type 0
IsAmongControl number deck Blocks = IsAmongBlocks deck [] number
IsAmongControl number deck (Numerator card) = IsAmongBlocks deck (card.line ∷ []) number
IsAmongControl number deck (Denominator card top line) = IsAmongBlocks deck (card.line ∷ []) number
IsAmongControl number deck TacsSources = IsAmongSignals deck number
IsAmongControl number deck Extras = IsAmongExtras deck [] number
IsAmongControl number deck (DevicePoints group) = IsAmongExtras deck (group.card.line ∷ []) number
IsAmongControl number deck TacsOutputs = IsAmongTacsOutputs deck number
IsAmongControl number deck Initial = IsAmongTacsOutputs deck number

abbrev pub IsAmongOutputs : Deck → ℕ → Type 0
IsAmongOutputs deck number =
    Rises (deck.second + 1) (front_lines deck ++ switch_lines deck.switches ++ source_lines deck.sources ++ output_lines deck.outputs) number

-- before a line
abbrev pub InOrder : ℕ → Deck → Place → Type 0
InOrder number deck Begin = IsHead deck number
InOrder number deck (First seen) = IsHead deck number
InOrder number deck Second = IsHead deck number
InOrder number deck Start = IsHead deck number
InOrder number deck (Control at) = IsAmongControl number deck at
InOrder number deck (Branches wide) = IsAmongBranches deck [] number
InOrder number deck (Points group) = IsAmongBranches deck (group.card.line ∷ []) number
InOrder number deck (Waiting card wide) = IsAmongBranches deck (card.line ∷ []) number
InOrder number deck (Third zero' positive wide) = IsAmongBranches deck (zero'.line ∷ positive.line ∷ []) number
InOrder number deck Switches = IsAmongSwitches deck number
InOrder number deck Sources = IsAmongSources deck number
InOrder number deck Outputs = IsAmongOutputs deck number
InOrder number deck (After seen) = IsAmongOutputs deck number

abbrev pub Orders : ℕ → Deck × Place → Type 0
Orders number next = InOrder number next.0 next.1

pub head_later : (deck : Deck) (number : ℕ) → IsHead deck number → IsHead deck (number + 1)
head_later deck number h = record { early = h.early; control = h.control; branches = h.branches; second = omega (arith, h.second) }

pub branches_later : (deck : Deck) (pending : List ℕ) (number : ℕ) → IsAmongBranches deck pending number → IsAmongBranches deck pending (number + 1)
branches_later deck pending number h = record { early = h.early; rises = later (deck.second + 1) (front_lines deck ++ pending) number (number + 1) (omega arith) h.rises }

pub blocks_later : (deck : Deck) (pending : List ℕ) (number : ℕ) → IsAmongBlocks deck pending number → IsAmongBlocks deck pending (number + 1)
blocks_later deck pending number h = record {
  early = h.early;
  branches = h.branches;
  signals = h.signals;
  extras = h.extras;
  outputs = h.outputs;
  rises = later (deck.second + 1) (block_lines deck ++ pending) number (number + 1) (omega arith) h.rises;
}

pub signals_later : (deck : Deck) (number : ℕ) → IsAmongSignals deck number → IsAmongSignals deck (number + 1)
signals_later deck number h = record {
  early = h.early;
  branches = h.branches;
  extras = h.extras;
  outputs = h.outputs;
  rises = later (deck.second + 1) (block_lines deck ++ signal_lines deck) number (number + 1) (omega arith) h.rises;
}

pub extras_later : (deck : Deck) (pending : List ℕ) (number : ℕ) → IsAmongExtras deck pending number → IsAmongExtras deck pending (number + 1)
extras_later deck pending number h = record {
  early = h.early;
  branches = h.branches;
  outputs = h.outputs;
  rises = later (deck.second + 1) (block_lines deck ++ signal_lines deck ++ extra_lines deck ++ pending) number (number + 1) (omega arith) h.rises;
}

pub tacs_outputs_later : (deck : Deck) (number : ℕ) → IsAmongTacsOutputs deck number → IsAmongTacsOutputs deck (number + 1)
tacs_outputs_later deck number h = record {
  early = h.early;
  branches = h.branches;
  rises = later (deck.second + 1) (control_lines deck.control) number (number + 1) (omega arith) h.rises;
}

pub control_later : (deck : Deck) (at : ControlPlace) (number : ℕ) → IsAmongControl number deck at → IsAmongControl (number + 1) deck at
control_later deck Blocks number h = blocks_later deck [] number h
control_later deck (Numerator card) number h = blocks_later deck (card.line ∷ []) number h
control_later deck (Denominator card top line) number h = blocks_later deck (card.line ∷ []) number h
control_later deck TacsSources number h = signals_later deck number h
control_later deck Extras number h = extras_later deck [] number h
control_later deck (DevicePoints group) number h = extras_later deck (group.card.line ∷ []) number h
control_later deck TacsOutputs number h = tacs_outputs_later deck number h
control_later deck Initial number h = tacs_outputs_later deck number h

-- a comment
pub passed : (deck : Deck) (place : Place) (number : ℕ) → InOrder number deck place → InOrder (number + 1) deck place
passed deck Begin number h = head_later deck number h
passed deck (First seen) number h = head_later deck number h
passed deck Second number h = head_later deck number h
passed deck Start number h = head_later deck number h
passed deck (Control at) number h = control_later deck at number h
passed deck (Branches wide) number h = branches_later deck [] number h
passed deck (Points group) number h = branches_later deck (group.card.line ∷ []) number h
passed deck (Waiting card wide) number h = branches_later deck (card.line ∷ []) number h
passed deck (Third zero' positive wide) number h = branches_later deck (zero'.line ∷ positive.line ∷ []) number h
passed deck Switches number h = record {
  sources = h.sources;
  outputs = h.outputs;
  rises = later (deck.second + 1) (front_lines deck ++ switch_lines deck.switches) number (number + 1) (omega arith) h.rises;
}
passed deck Sources number h = record {
  outputs = h.outputs;
  rises = later (deck.second + 1) (front_lines deck ++ switch_lines deck.switches ++ source_lines deck.sources) number (number + 1) (omega arith) h.rises;
}
passed deck Outputs number h = later (deck.second + 1) (front_lines deck ++ switch_lines deck.switches ++ source_lines deck.sources ++ output_lines deck.outputs) number (number + 1) (omega arith) h
passed deck (After seen) number h = later (deck.second + 1) (front_lines deck ++ switch_lines deck.switches ++ source_lines deck.sources ++ output_lines deck.outputs) number (number + 1) (omega arith) h

pub placed : (deck : Deck) (number : ℕ) (r : Result Place Bad) → IfOk r (λ place. InOrder number deck place) → IfOk (place_of deck r) (Orders number)
placed deck number (Ok place) h = h
placed deck number (Err bad) h = tt
