-- Lines that have the same bytes where a ruler has its marks.
use Rattle.std.specs.Prelude.{◌≡◌, ◌≤◌, ℕ, ℤ, Bool, Option, None, List, false}
use Rattle.emtp_card.specs.Field.{byte_in}
use Rattle.emtp_card.specs.Lines.{fault_of_line, is_blank, is_section_end}
use Rattle.emtp_case.specs.declared.branch.Point.{Point}
use Rattle.emtp_netcards.specs.BranchCard.{branch_card, kind_field}
use Rattle.emtp_netcards.specs.OutputCard.{output_card}
use Rattle.emtp_netcards.specs.PointCard.{next_point}
use Rattle.emtp_netcards.specs.SourceCard as sources
use Rattle.emtp_netcards.specs.SwitchCard as switches
use Rattle.emtp_netcards.specs.declared.point_card.PointScale.{PointScale}
use Rattle.emtp_taccards.specs.PolynomialCard.{polynomial_card}
use Rattle.emtp_taccards.specs.TacsSourceCard.{tacs_source_card}
use Rattle.emtp_warnings.specs.Marked.{output_ruler, point_ruler, polynomial_ruler, ruler_of_kind, source_ruler, switch_ruler, tacs_source_ruler}
use Rattle.emtp_warnings.specs.Marked.{ends_points, names_another}

-- two lines agree in all columns that a ruler marks; columns past a line's end are blank
pub record AgreeUnder (ruler x y : List ℕ) : Type 0 where
  pub marked : (column : ℕ) → 1 ≤ column → is_blank (byte_in ruler column) ≡ false → byte_in x column ≡ byte_in y column

-- no byte of either line is refused
pub record AreFaultless (x y : List ℕ) : Type 0 where
  pub one : fault_of_line x ≡ None
  pub other : fault_of_line y ≡ None

-- neither line ends a section
pub record EndNoSection (x y : List ℕ) : Type 0 where
  pub one : is_section_end x ≡ false
  pub other : is_section_end y ≡ false

-- what is read of a line is given by the columns that its ruler marks: another line with the same bytes there gives the same
abbrev pub IsReadUnder : {A : Type 0} → (ℕ → List ℕ → List ℕ) → (ℕ → List ℕ → A) → Type 0
IsReadUnder ruler card =
    (x y : List ℕ) → AreFaultless x y → (number : ℕ) → AgreeUnder (ruler number x) x y → card number x ≡ card number y

-- the same of lines that end no section
abbrev pub IsReadUnderUnlessEnd : {A : Type 0} → List ℕ → (ℕ → List ℕ → A) → Type 0
IsReadUnderUnlessEnd ruler card =
    (x y : List ℕ) → AreFaultless x y → EndNoSection x y → (number : ℕ) → AgreeUnder ruler x y → card number x ≡ card number y

-- ---- the rulers of cards

abbrev pub branch_card_ruler : Bool → ℕ → List ℕ → List ℕ
branch_card_ruler wide number line = ruler_of_kind wide (names_another line) (kind_field line)

abbrev pub switch_card_ruler : ℕ → List ℕ → List ℕ
switch_card_ruler number line = switch_ruler (switches.is_measuring line) (switches.type_field line)

abbrev pub source_card_ruler : ℕ → List ℕ → List ℕ
source_card_ruler number line = source_ruler (sources.type_field line)

abbrev pub tacs_source_card_ruler : ℕ → List ℕ → List ℕ
tacs_source_card_ruler number line = tacs_source_ruler (tacs_source_card number line)

abbrev pub output_card_ruler : ℕ → List ℕ → List ℕ
output_card_ruler number line = output_ruler (output_card number line)

-- branches, with narrow and with wide fields
abbrev pub AreBranchesReadUnder : Type 0
AreBranchesReadUnder =
    (dt : ℤ) (wide : Bool) → IsReadUnder (branch_card_ruler wide) (λ number line. branch_card number line dt wide)

-- points after any others
abbrev pub ArePointsReadUnder : Type 0
ArePointsReadUnder =
    (scale : PointScale) (before : Option Point) (count : ℕ) (dt : ℤ)
    → IsReadUnder (λ number line. point_ruler (ends_points number line scale))
    (λ number line. next_point number line scale before count dt)

-- the coefficients of a block of each order, at each time step
abbrev pub ArePolynomialsReadUnder : Type 0
ArePolynomialsReadUnder =
    (order : ℕ) → order ≤ 7 → (dt : ℤ)
    → IsReadUnder (λ number line. polynomial_ruler order) (λ number line. polynomial_card number line order dt)
