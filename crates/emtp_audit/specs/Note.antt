-- The lines that tell of an audit.
use Rattle.std.specs.Prelude.{ℕ, Bool, true, false, List, ◌++◌, codes, decimal}
use Rattle.emtp_audit.specs.declared.differs.DifferCause.{DifferCause}
use Rattle.emtp_audit.specs.declared.differs.DifferCause.TheVariants.{Missing, Extra, NotNumber, Wrong, Long}
use Rattle.emtp_audit.specs.declared.differs.Differs.{Differs}

-- a cause in capital letters
abbrev pub difference_word : DifferCause → List ℕ
difference_word Missing = codes "MISSING"
difference_word Extra = codes "EXTRA"
difference_word NotNumber = codes "NOTNUMBER"
difference_word Wrong = codes "WRONG"
difference_word Long = codes "LONG"

-- which of the two files
abbrev pub file_word : Bool → List ℕ
file_word true = codes "DAT"
file_word false = codes "CFG"

-- of a record that differs: where it does first, and why
unfoldable pub differs_note : Differs → List ℕ
differs_note differs =
    codes "DIFFERS " ++ file_word differs.dat ++ codes " LINE " ++ decimal differs.line ++ codes " FIELD "
    ++ decimal differs.field
    ++ codes " " ++ difference_word differs.cause ++ codes "\n"

-- of a record that doesn't, with so many samples
unfoldable pub same_text : ℕ → List ℕ
same_text count = codes "AUDIT SAME SAMPLES " ++ decimal count ++ codes "\n"
