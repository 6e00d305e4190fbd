-- A walk over the fields of a line, and over the lines of a file.
use Rattle.std.specs.Prelude.{◌≡◌, ℕ, ◌+◌, Bool, true, false, List, [], ◌∷◌, ◌++◌, length, Option, Some, None, Result, Ok, Err, ℤ, pos, slice_index_or, unwrap_or}
use Rattle.emtp_audit.specs.Rules.{Rule, LineRule, comma_fields, fields_differ, lines_differ, audited_lines, differs_at}
use Rattle.emtp_audit.specs.Numbers.{stamp_of}
use Rattle.emtp_audit.specs.declared.differs.DifferCause.{DifferCause}
use Rattle.emtp_audit.specs.declared.differs.DifferCause.TheVariants.{Missing}
use Rattle.emtp_audit.specs.declared.differs.Differs.{Differs}
use Rattle.emtp_audit.specs.declared.differs.AuditFault.{AuditFault}
use Rattle.emtp_audit.specs.declared.differs.AuditFault.TheVariants.{Differs as Difference, NoMemory}

-- where a walk stands: in a line, before a field with this number, with these fields left
pub record Walked : Type 0 where
  pub dat : Bool
  pub line : ℕ
  pub number : ℕ
  pub fields : List (List ℕ)

-- what rules find from there on
abbrev pub finds : Walked → List Rule → Option Differs
finds w rules = fields_differ w.dat w.line w.number rules w.fields

-- a walk has found what these rules find, or they all pass and it stands behind their fields
abbrev pub Walks : {T : Type 0} → Result T Differs → Walked → Walked → List Rule → Type 0
Walks (Ok u) old new rules = (more : List Rule) → finds old (rules ++ more) ≡ finds new more
Walks (Err differs) old new rules = (more : List Rule) → finds old (rules ++ more) ≡ Some differs

-- the next field was taken, or there is none
abbrev pub TakesField : Result (List ℕ) Differs → Walked → Walked → Type 0
TakesField (Ok field) old new =
    (old.fields ≡ field ∷ new.fields) × (new.line ≡ old.line) × (new.number ≡ old.number + 1) × (new.dat ≡ old.dat)
TakesField (Err differs) old new = (old.fields ≡ []) × (Some differs ≡ differs_at old.dat old.line old.number Missing)

-- of the field that was taken last
abbrev pub JudgesField : Result (Unit {0}) Differs → Walked → Option DifferCause → Type 0
JudgesField (Ok u) w cause = cause ≡ None
JudgesField (Err differs) w None = ⊥
JudgesField (Err differs) w (Some cause) = (at : ℕ) → w.number ≡ at + 1 → Some differs ≡ differs_at w.dat w.line at cause

-- what was found
abbrev pub difference_in : {T : Type 0} → Result T Differs → Option Differs
difference_in (Ok u) = None
difference_in (Err differs) = Some differs

-- the next line was compared by a rule, and a text is left behind it
abbrev pub LineWalks : Result (List ℕ) Differs → ℕ → LineRule → List ℕ → Type 0
LineWalks (Ok tail) number rule rest =
    (more : List LineRule) → lines_differ true number (rule ∷ more) (audited_lines rest)
    ≡ lines_differ true (number + 1) more (audited_lines tail)
LineWalks (Err differs) number rule rest =
    (more : List LineRule) → lines_differ true number (rule ∷ more) (audited_lines rest) ≡ Some differs

-- the stamp in a line, or 0
unfoldable pub stamp_in : List ℕ → ℤ
stamp_in line = unwrap_or (stamp_of (slice_index_or (comma_fields line) 1 [])) (pos 0)

-- ---- what stands behind

-- a list is what stands in another behind so many
abbrev pub Behind : List (List ℕ) → ℕ → List (List ℕ) → Type 0
Behind all count rest = (place : ℕ) → slice_index_or all (count + place) [] ≡ slice_index_or rest place []

-- ---- the lines of a configuration

-- where a walk stands: behind so many lines, before these
pub record LinesLeft : Type 0 where
  pub taken : ℕ
  pub lines : List (List ℕ)

-- what rules of lines find from there on
abbrev pub finds_lines : LinesLeft → List LineRule → Option Differs
finds_lines w rules = lines_differ false (w.taken + 1) rules w.lines

-- these rules pass, and the walk stands behind their lines
pub record Passes (old new : LinesLeft) (rules : List LineRule) : Type 0 where
  pub pass : (more : List LineRule) → finds_lines old (rules ++ more) ≡ finds_lines new more
  pub behind : Behind old.lines (length rules) new.lines

-- these rules find a difference
abbrev pub StopsAt : LinesLeft → List LineRule → Differs → Type 0
StopsAt old rules differs = (more : List LineRule) → finds_lines old (rules ++ more) ≡ Some differs

-- what holds of the difference, where the fault is one
abbrev pub OnDiffers : AuditFault → (Differs → Type 0) → Type 0
OnDiffers (Difference differs) P = P differs
OnDiffers NoMemory P = Unit {0}
