-- Where sections end.
use Rattle.std.specs.List.{starts_with}
use Rattle.std.specs.Prelude.{[], ◌+◌, ◌++◌, ◌∷◌, List, codes, decimal, if◌then◌else◌, nat_eq, ℕ}
use Rattle.emtp_causes.specs.declared.sections.Section.{Section}
use Rattle.emtp_causes.specs.declared.sections.Section.TheVariants.{Blocks, Branches, Extras, Initial, Outputs, Outside, Sources, Switches, TacsOutputs, TacsSources}
use Rattle.emtp_walk.specs.declared.kind.Kind.{Kind}
use Rattle.emtp_walk.specs.declared.kind.Kind.TheVariants as read
use Rattle.emtp_walk.specs.declared.kind.LineReading.{LineReading}
use Rattle.emtp_causes.specs.declared.texts.TheConstants.{BLOCKS, BRANCHES, ENDED_AT_LINE, INITIAL_CONDITIONS, NODE_OUTPUTS, SOURCES, SUPPLEMENTAL_CARDS, SWITCHES, TACS_OUTPUTS, TACS_SOURCES, THE_SECTION, WHICH_IS_BLANK}

abbrev pub section_name : Section → List ℕ
section_name Outside = []
section_name Blocks = BLOCKS.now
section_name TacsSources = TACS_SOURCES.now
section_name Extras = SUPPLEMENTAL_CARDS.now
section_name TacsOutputs = TACS_OUTPUTS.now
section_name Initial = INITIAL_CONDITIONS.now
section_name Branches = BRANCHES.now
section_name Switches = SWITCHES.now
section_name Sources = SOURCES.now
section_name Outputs = NODE_OUTPUTS.now

abbrev pub next : Section → Section
next Blocks = TacsSources
next TacsSources = Extras
next Extras = TacsOutputs
next TacsOutputs = Initial
next Initial = Branches
next Branches = Switches
next Switches = Sources
next Sources = Outputs
next Outputs = Outside
next Outside = Outside

-- the section behind a line: the control's begin behind TACS HYBRID, the network's behind the second miscellaneous card or the control
abbrev pub after : Section → Kind → Section
after section read.SecondRun = Branches
after section read.Hybrid = Blocks
after section read.SectionEnd = next section
after section other = section

-- a blank line may be one by mistake
abbrev pub blank_text : List ℕ → List ℕ
blank_text line = if starts_with nat_eq line (codes "BLANK") then [] else WHICH_IS_BLANK.now

unfoldable pub end_line : List ℕ → ℕ → List ℕ → List ℕ
end_line name number line = THE_SECTION.now ++ name ++ ENDED_AT_LINE.now ++ decimal number ++ blank_text line ++ codes ".\n"

-- outside of the sections a line ends none
abbrev pub end_text : Section → ℕ → List ℕ → Kind → List ℕ
end_text Outside number line kind = []
end_text section number line read.SectionEnd = end_line (section_name section) number line
end_text section number line other = []

-- of the lines from a number on, behind a section
abbrev pub sections_from : Section → ℕ → List LineReading → List (List ℕ) → List ℕ
sections_from section number readings [] = []
sections_from section number [] (line ∷ lines) = []
sections_from section number (reading ∷ readings) (line ∷ lines) =
    end_text section number line reading.kind
    ++ sections_from (after section reading.kind) (number + 1) readings lines

-- each section that a line ends, by that line
abbrev pub sections_text : List LineReading → List (List ℕ) → List ℕ
sections_text readings lines = sections_from Outside 1 readings lines
