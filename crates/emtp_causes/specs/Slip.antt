-- What a line was meant as that isn't read here.
use Rattle.std.specs.List.{starts_with}
use Rattle.std.specs.Prelude.{[], ◌&&◌, ◌||◌, Bool, List, codes, if◌then◌else◌, nat_eq, not, ℕ}
use Rattle.std.specs.Str.{bytes_eq}
use Rattle.emtp_card.specs.Field.{field_of}
use Rattle.emtp_causes.specs.declared.texts.TheConstants.{COMMENT_WITHOUT_BLANK, SMALL_BLANK, SMALL_COMMENT, SPECIAL_REQUEST}

-- those that stand in front of the miscellaneous cards
abbrev pub begins_a_request : List ℕ → Bool
begins_a_request text =
    starts_with nat_eq text (codes "POWER FREQUENCY")
    || starts_with nat_eq text (codes "FREQUENCY SCAN")
    || starts_with nat_eq text (codes "HARMONIC FREQUENCY")
    || starts_with nat_eq text (codes "ABSOLUTE TACS")
    || starts_with nat_eq text (codes "RELATIVE TACS")
    || starts_with nat_eq text (codes "CHANGE SWITCH")
    || starts_with nat_eq text (codes "PRINTED NUMBER")
    || starts_with nat_eq text (codes "PEAK VOLTAGE")
    || starts_with nat_eq text (codes "TIME OF DIALOGUE")
    || starts_with nat_eq text (codes "START AGAIN")
    || starts_with nat_eq text (codes "AUTO NAME")
    || starts_with nat_eq text (codes "FIX SOURCE")

-- those that stand among the cards, or in place of them
abbrev pub stands_among_cards : List ℕ → Bool
stands_among_cards text =
    starts_with nat_eq text (codes "TRANSFORMER")
    || starts_with nat_eq text (codes "STATISTICS")
    || starts_with nat_eq text (codes "SYSTEMATIC")
    || starts_with nat_eq text (codes "CASCADED PI")
    || starts_with nat_eq text (codes "LINE CONSTANTS")
    || starts_with nat_eq text (codes "CABLE CONSTANTS")
    || starts_with nat_eq text (codes "CABLE PARAMETERS")
    || starts_with nat_eq text (codes "UNIVERSAL MACHINE")

-- the requests of ATP in words
abbrev pub is_request : List ℕ → Bool
is_request text = begins_a_request text || stands_among_cards text

-- as /BRANCH or $INCLUDE; a vintage card is read
abbrev pub begins_a_section : List ℕ → Bool
begins_a_section line =
    starts_with nat_eq line (codes "/")
    || (starts_with nat_eq line (codes "$") && not (starts_with nat_eq line (codes "$VINTAGE")))

abbrev pub is_special : List ℕ → Bool
is_special line = begins_a_section line || is_request (field_of line 1 80)

abbrev pub is_small_blank : List ℕ → Bool
is_small_blank line = starts_with nat_eq line (codes "blank") || starts_with nat_eq line (codes "Blank")

abbrev pub is_small_comment : List ℕ → Bool
is_small_comment line = bytes_eq line (codes "c") || starts_with nat_eq line (codes "c ")

-- a line that is no comment begins as one
abbrev pub is_comment_like : List ℕ → Bool
is_comment_like line = starts_with nat_eq line (codes "C")

-- what is said of a line that was meant so; nothing of any other
abbrev pub slip : List ℕ → List ℕ
slip line =
    if is_special line then SPECIAL_REQUEST.now
    else if is_small_blank line then SMALL_BLANK.now
    else if is_small_comment line then SMALL_COMMENT.now
    else if is_comment_like line then COMMENT_WITHOUT_BLANK.now
    else []
