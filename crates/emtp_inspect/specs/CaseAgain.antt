-- What the case of a run adds to the words of its status, where its file is read again.
use Rattle.std.specs.List.{list_any}
use Rattle.std.specs.Prelude.{◌||◌, [], Bool, false, true, List, Option, Some, None, Result, Ok, Err, codes, if◌then◌else◌, int_lt, pos, ℕ}
use Rattle.std.specs.Str.{bytes_eq}
use Rattle.emtp_card.specs.Cards.{size_fault}
use Rattle.emtp_card.specs.Lines.{lines_of}
use Rattle.emtp_card.specs.declared.reason.Bad.{Bad}
use Rattle.emtp_case.specs.declared.case.Parts.{Parts}
use Rattle.emtp_case.specs.declared.source.Shape.{Shape}
use Rattle.emtp_case.specs.declared.source.Shape.TheVariants.{Cosine, Tacs}
use Rattle.emtp_case.specs.declared.source.Source.{Source}
use Rattle.emtp_causes.specs.Notes.{ended_name, ended_step, unsolved_reason}
use Rattle.emtp_deck.specs.Deck.{deck_of}
use Rattle.emtp_inspect.specs.Growing.{growing_by}
use Rattle.emtp_inspect.specs.declared.case_again.TheConstants.{COSINE_OF_THE_CONTROL}

-- ---- the case

abbrev pub case_by : Result Parts Bad → Option Parts
case_by (Ok case) = Some case
case_by (Err bad) = None

abbrev pub case_sized : Option Bad → List (List ℕ) → Option Parts
case_sized (Some bad) lines = None
case_sized None lines = case_by (deck_of lines)

-- the case that a text is; none where a card is refused
abbrev pub case_in : List ℕ → Option Parts
case_in text = case_sized (size_fault text) (lines_of text)

-- ---- an early end

abbrev pub growing_at : Option ℕ → List ℕ → Parts → List ℕ
growing_at None name p = []
growing_at (Some step) name p = growing_by p step name

-- which branch makes a current grow up to the step of a note
abbrev pub growing_in : List ℕ → Option Parts → List ℕ
growing_in note None = []
growing_in note (Some p) = growing_at (ended_step note) (ended_name note) p

-- ---- no frequency

abbrev pub is_cosine_with : Shape → Bool
is_cosine_with (Cosine freq phase) = int_lt (pos 0) freq
is_cosine_with other = false

abbrev pub is_of_variable : Shape → Bool
is_of_variable (Tacs var) = true
is_of_variable other = false

-- a cosine with a frequency above 0
abbrev pub has_frequency : Source → Bool
has_frequency s = is_cosine_with s.shape

-- its value is that of a variable
abbrev pub is_driven : Source → Bool
is_driven s = is_of_variable s.shape

-- the control has a cosine, or a source of type 60 takes a value of it
abbrev pub takes_control : Parts → Bool
takes_control p = list_any has_frequency p.tacs_sources || list_any is_driven p.sources

abbrev pub control_text : Parts → List ℕ
control_text p = if takes_control p then COSINE_OF_THE_CONTROL.now else []

abbrev pub control_in : Option Parts → List ℕ
control_in None = []
control_in (Some p) = control_text p

-- of a case without a frequency
abbrev pub frequency_text : List ℕ → List ℕ → List ℕ
frequency_text note bytes = if bytes_eq (unsolved_reason note) (codes "NoSource") then control_in (case_in bytes) else []
