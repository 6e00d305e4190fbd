-- What two cases of the same listing have in common.
use Rattle.std.specs.Prelude.{◌≡◌, ◌<◌, ◌^◌, ◌==◌, ◌∷◌, not, true, [], All, List, length, map, pos, slice_index_or, ◌≤ℤ◌, ℕ}
use Rattle.std.specs.List.{list_all}
use Rattle.emtp_case.specs.Branch.{line_of, points_of}
use Rattle.emtp_case.specs.held.Name.{IsName}
use Rattle.emtp_case.specs.held.Sizes.{Sizes}
use Rattle.emtp_case.specs.declared.branch.Branch.{Branch}
use Rattle.emtp_case.specs.declared.branch.Branch.TheVariants.{Pseudo as OfPseudo}
use Rattle.emtp_case.specs.declared.branch.Point.{Point}
use Rattle.emtp_case.specs.declared.branch.Trio.{Trio}
use Rattle.emtp_case.specs.declared.case.Parts.{Parts}
use Rattle.emtp_case.specs.declared.control.Block.{Block}
use Rattle.emtp_case.specs.declared.control.Extra.{Extra}
use Rattle.emtp_case.specs.declared.control.Extra.TheVariants.{Device as OfDevice, Formula as OfFormula}
use Rattle.emtp_case.specs.declared.run_data.RunData.{RunData}
use Rattle.emtp_case.specs.declared.source.Source.{Source}
use Rattle.emtp_case.specs.declared.switch.Switch.{Switch}

-- no two places have the same name
abbrev pub AreApart : List (List ℕ) → Type 0
AreApart names = (i j : ℕ) → i < length names → j < length names → slice_index_or names i [] ≡ slice_index_or names j [] → i ≡ j

-- What the types of the records hold: a number of a line is below 2^32, a list is no longer than memory, and a
-- polynomial has eight coefficients.

abbrev pub HasFileLine : Source → Type 0
HasFileLine s = s.line < 2 ^ 32

-- both modes have each of the three numbers
pub record HasModes (t : Trio) : Type 0 where
  pub first : t.first < 2 ^ 32
  pub zc : length t.zc ≡ 2
  pub r : length t.r ≡ 2
  pub delay : length t.delay ≡ 2

pub record HasPowers (b : Block) : Type 0 where
  pub line : b.line < 2 ^ 32
  pub top : length b.top ≡ 8
  pub bottom : length b.bottom ≡ 8

abbrev pub HasFewNames : Extra → Type 0
HasFewNames (OfDevice x) = x.line < 2 ^ 32
HasFewNames (OfFormula x) = (x.line < 2 ^ 32) × (length x.vars < 2 ^ 63)

pub record FitsTypes (p : Parts) : Type 0 where
  pub branches : All (λ (b : Branch). line_of b < 2 ^ 32) p.branches
  pub trios : All HasModes p.trios
  pub switches : All (λ (s : Switch). s.line < 2 ^ 32) p.switches
  pub sources : All HasFileLine p.sources
  pub tacs_sources : All HasFileLine p.tacs_sources
  pub blocks : All HasPowers p.blocks
  pub extras : All HasFewNames p.extras

-- the points of a branch's characteristic
abbrev pub characteristic_of : List Point → Branch → List Point
characteristic_of points (OfPseudo b) = points_of points b.first b.count
characteristic_of points b = []

-- the points of a device's table, or the times of its window
abbrev pub table_of : List Point → Extra → List Point
table_of points (OfDevice x) = points_of points x.first x.count
table_of points (OfFormula x) = []

-- all records are the same, and the points of each are
pub record AreSame (p q : Parts) : Type 0 where
  pub run : p.run ≡ q.run
  pub nodes : p.nodes ≡ q.nodes
  pub vars : p.vars ≡ q.vars
  pub branches : p.branches ≡ q.branches
  pub characteristics : map (characteristic_of p.points) p.branches ≡ map (characteristic_of q.points) q.branches
  pub trios : p.trios ≡ q.trios
  pub switches : p.switches ≡ q.switches
  pub sources : p.sources ≡ q.sources
  pub tacs_sources : p.tacs_sources ≡ q.tacs_sources
  pub blocks : p.blocks ≡ q.blocks
  pub extras : p.extras ≡ q.extras
  pub tables : map (table_of p.points) p.extras ≡ map (table_of q.points) q.extras
  pub channels : p.channels ≡ q.channels

-- a text without a mark
abbrev pub IsFree : ℕ → List ℕ → Type 0
IsFree b text = list_all (λ x. not (x == b)) text ≡ true

abbrev pub AllFree : ℕ → List (List ℕ) → Type 0
AllFree b [] = Unit {0}
AllFree b (x ∷ xs) = IsFree b x × AllFree b xs

-- the run, the sizes and the points that a case's records stand among
pub record Around : Type 0 where
  pub run : RunData
  pub sizes : Sizes
  pub points : List Point

-- its nodes have these names, and nothing in it is more than a file can hold
pub record HasNodeNames (w : Around) (nodes : List (List ℕ)) : Type 0 where
  pub names : All IsName nodes
  pub count : w.sizes.nodes ≡ length nodes
  pub points : length w.points < 2 ^ 32
  pub branches : w.sizes.branches < 2 ^ 32
  pub trios : w.sizes.trios < 2 ^ 32
  pub switches : w.sizes.switches < 2 ^ 32
  pub timed : pos 0 ≤ℤ w.run.dt

-- its variables have these names
pub record HasVarNames (w : Around) (vars : List (List ℕ)) : Type 0 where
  pub names : All IsName vars
  pub count : w.sizes.vars ≡ length vars
