-- Where a branch card's values come from: itself, or the first earlier branch of its type between the two nodes that it
-- names.
use Rattle.std.specs.Ordering.{int_eq}
use Rattle.std.specs.Prelude.{ℕ, ◌==◌, ◌&&◌, ℤ, pos, negsuc, Bool, true, false, List, [], ◌∷◌, find, slice_index_or, Option, Some, None, if◌then◌else◌}
use Rattle.emtp_card.specs.declared.fault.Fault.{Fault}
use Rattle.emtp_card.specs.declared.reason.Why.TheVariants.{UnknownName}
use Rattle.emtp_case.specs.Branch.{from_of, to_of}
use Rattle.emtp_case.specs.declared.branch.Branch.{Branch}
use Rattle.emtp_case.specs.declared.branch.Branch.TheVariants.{Line as OfLine, Lumped as OfLumped, Phase as OfPhase, Pseudo as OfPseudo}
use Rattle.emtp_case.specs.declared.branch.Phase.{Phase}
use Rattle.emtp_case.specs.declared.branch.Trio.{Trio}
use Rattle.emtp_case.specs.declared.case.Parts.{Parts}
use Rattle.emtp_sense.specs.Names.{node_number}
use Rattle.emtp_deck.specs.declared.copies.LineNumbers.{LineNumbers}
use Rattle.emtp_deck.specs.declared.copies.ValuesFrom.{ValuesFrom}
use Rattle.emtp_deck.specs.declared.copies.ValuesFrom.TheVariants.{Card as OwnValues, Earlier, Missing}
use Rattle.emtp_netcards.specs.declared.branch_card.BranchCard.{BranchCard}
use Rattle.emtp_netcards.specs.declared.branch_card.BranchKind.{BranchKind}
use Rattle.emtp_netcards.specs.declared.branch_card.BranchKind.TheVariants.{Line as LineKind, Reactor as ReactorKind, Resistor as ResistorKind, Second as SecondKind, Series as SeriesKind, Third as ThirdKind}
use Rattle.emtp_netcards.specs.declared.branch_card.BranchValues.{BranchValues}
use Rattle.emtp_netcards.specs.declared.branch_card.BranchValues.TheVariants.{Copied as CopiedCard, Line as LineCard, Second as SecondCard}

-- the number in the type columns of the card that made a branch
abbrev pub type_of_phase : ℕ → ℤ
type_of_phase p = if p == 0 then negsuc 0 else if p == 1 then negsuc 1 else negsuc 2

abbrev pub type_of_pseudo : Bool → ℤ
type_of_pseudo true = pos 98
type_of_pseudo false = pos 99

abbrev pub type_of_branch : Branch → ℤ
type_of_branch (OfLumped x) = pos 0
type_of_branch (OfLine x) = negsuc 0
type_of_branch (OfPseudo x) = type_of_pseudo x.reactor
type_of_branch (OfPhase x) = type_of_phase x.phase

-- and of a card itself
abbrev pub type_of_kind : BranchKind → ℤ
type_of_kind SeriesKind = pos 0
type_of_kind LineKind = negsuc 0
type_of_kind SecondKind = negsuc 1
type_of_kind ThirdKind = negsuc 2
type_of_kind ReactorKind = pos 98
type_of_kind ResistorKind = pos 99

-- a branch of a type between two nodes in this order
abbrev pub is_like : ℤ → ℕ → ℕ → Branch → Bool
is_like type a b x = (from_of x == a) && (to_of x == b) && int_eq (type_of_branch x) type

abbrev pub earlier_or_missing : Option Branch → ValuesFrom
earlier_or_missing (Some b) = Earlier b
earlier_or_missing None = Missing

-- the first branch of a type between the nodes of two names
abbrev pub earlier_of : List (List ℕ) → List Branch → ℤ → Option (List ℕ) → Option (List ℕ) → ValuesFrom
earlier_of names branches type a b = earlier_or_missing (find (is_like type (node_number names a) (node_number names b)) branches)

abbrev pub values_by : List (List ℕ) → List Branch → BranchValues → ValuesFrom
values_by names branches (CopiedCard kind a b) = earlier_of names branches (type_of_kind kind) a b
values_by names branches other = OwnValues

-- where a card's values come from, behind these branches
abbrev pub values_from : List (List ℕ) → List Branch → BranchCard → ValuesFrom
values_from names branches card = values_by names branches card.values

abbrev pub missing_fault : ValuesFrom → Option Fault
missing_fault OwnValues = None
missing_fault (Earlier b) = None
missing_fault Missing = Some (record { column = 15; why = UnknownName })

-- ---- lines

-- the numbers of one mode of a three-phase line
abbrev pub mode_numbers : Trio → ℕ → LineNumbers
mode_numbers t m = record {
  zc = slice_index_or t.zc m (pos 0);
  r = slice_index_or t.r m (pos 0);
  delay = slice_index_or t.delay m (pos 0);
}

abbrev pub no_trio : Trio
no_trio = record { first = 0; zc = []; r = []; delay = [] }

-- phase 0 has the numbers of the zero sequence, as on its card, and the others those of the positive sequence
abbrev pub mode_of_phase : ℕ → ℕ
mode_of_phase p = if p == 0 then 0 else 1

abbrev pub phase_numbers : List Trio → Phase → LineNumbers
phase_numbers trios x = mode_numbers (slice_index_or trios x.trio no_trio) (mode_of_phase x.phase)

-- the numbers of a branch that is a line or a phase
abbrev pub numbers_of_branch : List Trio → Branch → Option LineNumbers
numbers_of_branch trios (OfLumped x) = None
numbers_of_branch trios (OfLine x) = Some (record { zc = x.zc; r = x.r; delay = x.delay })
numbers_of_branch trios (OfPseudo x) = None
numbers_of_branch trios (OfPhase x) = Some (phase_numbers trios x)

abbrev pub numbers_of_card : BranchValues → Option LineNumbers
numbers_of_card (LineCard zc r delay) = Some (record { zc = zc; r = r; delay = delay })
numbers_of_card (SecondCard zc r delay) = Some (record { zc = zc; r = r; delay = delay })
numbers_of_card other = None

-- the numbers that a line's card gives its branch
abbrev pub line_numbers : List Trio → BranchValues → ValuesFrom → Option LineNumbers
line_numbers trios values OwnValues = numbers_of_card values
line_numbers trios values (Earlier b) = numbers_of_branch trios b
line_numbers trios values Missing = None

-- the zero and the positive sequence, whose first branch isn't placed yet
abbrev pub modes_of : LineNumbers → LineNumbers → Trio
modes_of z q = record { first = 0; zc = z.zc ∷ q.zc ∷ []; r = z.r ∷ q.r ∷ []; delay = z.delay ∷ q.delay ∷ [] }

-- those of a line whose cards have numbers
abbrev pub modes_for : Option LineNumbers → Option LineNumbers → Option Trio
modes_for (Some z) (Some q) = Some (modes_of z q)
modes_for (Some z) None = None
modes_for None q = None

-- ---- behind what is made of the cards so far

abbrev pub values_behind : Parts → BranchCard → ValuesFrom
values_behind p card = values_from p.nodes p.branches card

abbrev pub numbers_behind : Parts → BranchCard → Option LineNumbers
numbers_behind p card = line_numbers p.trios card.values (values_behind p card)
