-- What the words of a command line ask for: what is wanted of a case, and the name of its file.
use Rattle.std.specs.Prelude.{◌∷◌, [], List, Option, Some, None, codes, if◌then◌else◌, ℕ}
use Rattle.std.specs.Str.{bytes_eq}
use Rattle.emtp_causes.specs.Ends.{end_text, unsolved_text}
use Rattle.emtp_causes.specs.Misfit.{misfit_text}
use Rattle.emtp_causes.specs.Parts.{field_line, item_line, number_or_one}
use Rattle.emtp_inspect.specs.declared.words.PastWords.{PastWords}
use Rattle.emtp_inspect.specs.declared.words.Wanted.{Wanted}
use Rattle.emtp_inspect.specs.declared.words.Wanted.TheVariants.{Cause, Fields, Kinds, Listing, WarningCount}
use Rattle.emtp_run.specs.Words.{is_name, texts}

abbrev pub named : Wanted → List ℕ → Option (Wanted × List ℕ)
named wanted word = if is_name word then Some (wanted, word) else None

-- the word before the name asks how many warnings there are, as what each line is read, why a card is refused, or what fields
-- the lines have
abbrev pub counted : List ℕ → List ℕ → Option (Wanted × List ℕ)
counted first word =
    if bytes_eq first (codes "--count") then named WarningCount word
    else if bytes_eq first (codes "--kinds") then named Kinds word
    else if bytes_eq first (codes "--why") then named Cause word
    else if bytes_eq first (codes "--fields") then named Fields word
    else None

-- one word names a file
abbrev pub asked : List (List ℕ) → Option (Wanted × List ℕ)
asked [] = None
asked (word ∷ []) = named Listing word
asked (first ∷ word ∷ []) = counted first word
asked (first ∷ word ∷ next ∷ more) = None

-- ---- words of a note

-- why a case has no steady state
abbrev pub explained_two : List ℕ → List ℕ → Option (List ℕ)
explained_two first reason = if bytes_eq first (codes "--unsolved") then Some (unsolved_text reason) else None

-- why an item of a row is refused
abbrev pub explained_three : List ℕ → List ℕ → List ℕ → Option (List ℕ)
explained_three first row number = if bytes_eq first (codes "--item") then Some (item_line row (number_or_one number)) else None

-- what an early end means, by its cause, its step and what it names; how a line of a record differs, by the number of a field
-- and the cause
abbrev pub explained_four : List ℕ → List ℕ → List ℕ → List ℕ → Option (List ℕ)
explained_four first one two three =
    if bytes_eq first (codes "--ended") then Some (end_text one two three)
    else if bytes_eq first (codes "--field") then Some (field_line one (number_or_one two) three)
    else None

abbrev pub explained_note : List (List ℕ) → Option (List ℕ)
explained_note [] = None
explained_note (first ∷ []) = None
explained_note (first ∷ one ∷ []) = explained_two first one
explained_note (first ∷ one ∷ two ∷ []) = explained_three first one two
explained_note (first ∷ one ∷ two ∷ three ∷ []) = explained_four first one two three
explained_note (first ∷ one ∷ two ∷ three ∷ next ∷ more) = None

-- ---- words that name no case

-- why words are no command, or what words of a note mean
abbrev pub explained : List (List ℕ) → Option (List ℕ)
explained [] = None
explained (first ∷ rest) = if bytes_eq first (codes "--misfit") then Some (misfit_text rest) else explained_note (first ∷ rest)

-- ---- a run that was made

-- the number of its status, its note without the end of the line, and its words
pub record PastRun : Type 0 where
  pub status : List ℕ
  pub note : List ℕ
  pub words : List (List ℕ)

abbrev pub run_of : PastWords → PastRun
run_of w = record { status = w.status.now; note = w.note.now; words = texts w.words.now }

abbrev pub told_behind : List ℕ → List ℕ → List ℕ → List (List ℕ) → Option PastRun
told_behind first status note words =
    if bytes_eq first (codes "--told") then Some (record { status = status; note = note; words = words }) else None

-- a run of which is asked what its status means
abbrev pub past_run : List (List ℕ) → Option PastRun
past_run [] = None
past_run (first ∷ []) = None
past_run (first ∷ status ∷ []) = None
past_run (first ∷ status ∷ note ∷ words) = told_behind first status note words
