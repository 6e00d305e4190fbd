-- The warnings of the records of a case.
use Rattle.std.specs.Prelude.{ℕ, ◌+◌, ◌-◌, ◌==◌, ℤ, pos, int_lt, nat_lt, ◌*ℤ◌, count_by, flat_map, length, min, slice_get, take, Bool, true, false, not, ◌&&◌, ◌||◌, List, [], ◌∷◌, ◌++◌, Option, Some, None, codes}
use Rattle.std.specs.Ordering.{int_eq}
use Rattle.std.specs.Str.{bytes_eq, str_eq_ignore_ascii_case}
use Rattle.emtp_case.specs.Branch.{from_of, line_of, to_of}
use Rattle.emtp_case.specs.RunData.{time_of}
use Rattle.emtp_case.specs.declared.branch.Branch.{Branch}
use Rattle.emtp_case.specs.declared.branch.Branch.TheVariants.{Line as OfLine, Lumped as OfLumped, Phase as OfPhase, Pseudo as OfPseudo}
use Rattle.emtp_case.specs.declared.branch.Trio.{Trio}
use Rattle.emtp_case.specs.declared.case.Parts.{Parts}
use Rattle.emtp_case.specs.declared.source.Shape.{Shape}
use Rattle.emtp_case.specs.declared.source.Shape.TheVariants.{Cosine}
use Rattle.emtp_case.specs.declared.source.Source.{Source}
use Rattle.emtp_case.specs.declared.switch.Switch.{Switch}
use Rattle.emtp_case.specs.declared.switch.SwitchKind.{SwitchKind}
use Rattle.emtp_case.specs.declared.switch.SwitchKind.TheVariants.{Measuring, Time}
use Rattle.emtp_warnings.specs.ActingWarnings.{series_warnings}
use Rattle.emtp_warnings.specs.ArresterWarnings.{is_bare, stands_at}
use Rattle.emtp_warnings.specs.Finding.{found, of_columns, of_line}
use Rattle.emtp_warnings.specs.declared.finding.Finding.TheVariants.{AfterEnd, BareArrester, CaseAlone, EarlyCosine, LateTravel, LoneNode, NeverActs, NoFrequency, NodeZero, OpensFirst, ShortTravel, SideBySide, SmallCapacitance}
use Rattle.emtp_warnings.specs.declared.finding.Warning.{Warning}

-- ---- the end of the run

-- the time of the last step
abbrev pub end_of_run : Parts → ℤ
end_of_run p = time_of p.run p.run.steps

abbrev pub is_after_end : ℤ → Option ℤ → Bool
is_after_end last None = false
is_after_end last (Some time) = int_lt last time

-- ---- nodes

abbrev pub switch_ends_at : ℕ → Switch → Bool
switch_ends_at node s = (s.from == node) || (s.to == node)

abbrev pub source_stands_at : ℕ → Source → Bool
source_stands_at node s = s.node == node

-- how many branches, switches and sources a node has
abbrev pub records_at : Parts → ℕ → ℕ
records_at p node =
    count_by (stands_at node) p.branches + count_by (switch_ends_at node) p.switches
    + count_by (source_stands_at node) p.sources

-- ground has no name
abbrev pub is_lone : Parts → ℕ → Bool
is_lone p node = not (node == 0) && (records_at p node == 1)

abbrev pub is_zero_name : Option (List ℕ) → Bool
is_zero_name None = false
is_zero_name (Some name) = bytes_eq name (codes "0")

abbrev pub is_node_zero : Parts → ℕ → Bool
is_node_zero p node = not (node == 0) && is_zero_name (slice_get p.nodes (node - 1))

-- a name that differs in case alone
abbrev pub is_twin : List ℕ → List ℕ → Bool
is_twin name other = not (bytes_eq name other) && str_eq_ignore_ascii_case name other

abbrev pub has_twin : List (List ℕ) → Option (List ℕ) → Bool
has_twin names None = false
has_twin names (Some name) = not (count_by (is_twin name) names == 0)

-- from that of a node before it
abbrev pub is_case_alone : Parts → ℕ → Bool
is_case_alone p node = not (node == 0) && has_twin (take (min (node - 1) (length p.nodes)) p.nodes) (slice_get p.nodes (node - 1))

-- what BUS1 and BUS2 of a branch or a switch warn of
abbrev pub ends_warnings : Parts → ℕ → ℕ → ℕ → List Warning
ends_warnings p line a b = found
    ((is_lone p a, of_columns line 3 8 LoneNode)
    ∷ (is_node_zero p a, of_columns line 3 8 NodeZero)
    ∷ (is_case_alone p a, of_columns line 3 8 CaseAlone)
    ∷ (is_lone p b, of_columns line 9 14 LoneNode)
    ∷ (is_node_zero p b, of_columns line 9 14 NodeZero)
    ∷ (is_case_alone p b, of_columns line 9 14 CaseAlone) ∷ [])

-- ---- branches

-- of a three-phase line the travel time of the zero sequence stands on the card of its first phase, that of the positive one on
-- the card of its second
abbrev pub mode_delay : Option Trio → ℕ → Option ℤ
mode_delay None phase = None
mode_delay (Some t) phase = slice_get t.delay phase

abbrev pub travel_time_of : Parts → Branch → Option ℤ
travel_time_of p (OfLumped b) = None
travel_time_of p (OfLine b) = Some b.delay
travel_time_of p (OfPseudo b) = None
travel_time_of p (OfPhase b) = mode_delay (slice_get p.trios b.trio) b.phase

-- below two steps
abbrev pub is_short : ℤ → Option ℤ → Bool
is_short dt None = false
is_short dt (Some delay) = int_lt delay (pos 2 *ℤ dt)

-- of a capacitance that is there
abbrev pub is_small : Branch → Bool
is_small (OfLumped b) = int_lt (pos 0) b.c && int_lt b.c (pos 1000)
is_small other = false

-- what the values of a branch warn of
abbrev pub value_warnings : Parts → Branch → List Warning
value_warnings p b = found
    ((is_short p.run.dt (travel_time_of p b), of_line (line_of b) ShortTravel)
    ∷ (is_after_end (end_of_run p) (travel_time_of p b), of_line (line_of b) LateTravel)
    ∷ (is_small b, of_line (line_of b) SmallCapacitance)
    ∷ (is_bare p b, of_line (line_of b) BareArrester) ∷ [])

-- what a series branch acts as over the run
abbrev pub acting_warnings : Parts → Branch → List Warning
acting_warnings p (OfLumped b) = series_warnings p.run.dt (end_of_run p) b
acting_warnings p other = []

abbrev pub branch_warnings : Parts → Branch → List Warning
branch_warnings p b = ends_warnings p (line_of b) (from_of b) (to_of b) ++ value_warnings p b ++ acting_warnings p b

-- ---- switches

-- an opening before a time; a switch that never opens has no T-OPEN
abbrev pub is_before : ℤ → Option ℤ → Bool
is_before time None = false
is_before time (Some open_at) = int_lt open_at time

-- the times of a time switch
abbrev pub times_warnings : ℤ → ℕ → SwitchKind → List Warning
times_warnings last line (Time close open_at margin) = found
    ((int_lt last close, of_columns line 15 24 AfterEnd)
    ∷ (is_after_end last open_at, of_columns line 25 34 AfterEnd)
    ∷ (is_before close open_at, of_columns line 25 34 OpensFirst) ∷ [])
times_warnings last line other = []

-- between the same nodes
abbrev pub joins_same : Switch → Switch → Bool
joins_same s other = (s.from == other.from && s.to == other.to) || (s.from == other.to && s.to == other.from)

-- a time before the opening, where there is one
abbrev pub opens_after : ℤ → Option ℤ → Bool
opens_after time None = true
opens_after time (Some open_at) = int_lt time open_at

-- a time switch that closes in the run, and opens after that and after another closing time
abbrev pub is_closed_after : ℤ → ℤ → ℤ → Option ℤ → Bool
is_closed_after last time close open_at = not (int_lt last close) && opens_after close open_at && opens_after time open_at

-- both are closed at one time, by their times; a measuring switch is always closed
abbrev pub are_closed : ℤ → SwitchKind → SwitchKind → Bool
are_closed last (Time close open_at margin) (Time close' open' margin') =
    is_closed_after last close' close open_at && is_closed_after last close close' open'
are_closed last (Time close open_at margin) Measuring = is_closed_after last close close open_at
are_closed last Measuring (Time close open_at margin) = is_closed_after last close close open_at
are_closed last Measuring Measuring = true
are_closed last kind other = false

-- of the switches before it in the case
abbrev pub is_beside : ℤ → Switch → Switch → Bool
is_beside last s other = nat_lt other.line s.line && joins_same s other && are_closed last s.kind other.kind

abbrev pub beside_warnings : Parts → Switch → List Warning
beside_warnings p s =
    found ((not (count_by (is_beside (end_of_run p) s) p.switches == 0), of_line s.line SideBySide) ∷ [])

abbrev pub switch_warnings : Parts → Switch → List Warning
switch_warnings p s =
    ends_warnings p s.line s.from s.to ++ times_warnings (end_of_run p) s.line s.kind ++ beside_warnings p s

-- ---- sources

abbrev pub is_constant : Shape → Bool
is_constant (Cosine freq phase) = int_eq freq (pos 0)
is_constant other = false

abbrev pub is_cosine : Shape → Bool
is_cosine (Cosine freq phase) = true
is_cosine other = false

-- a source that stops before it starts, or with it
abbrev pub is_idle : ℤ → Option ℤ → Bool
is_idle start None = false
is_idle start (Some stop) = not (int_lt start stop)

-- of the network, or of the control
abbrev pub source_warnings : ℤ → Source → List Warning
source_warnings last s = found
    ((is_constant s.shape, of_columns s.line 21 30 NoFrequency)
    ∷ (int_lt last s.start, of_columns s.line 61 70 AfterEnd)
    ∷ (is_cosine s.shape && int_lt s.start (pos 0), of_columns s.line 61 70 EarlyCosine)
    ∷ (is_idle s.start s.stop, of_columns s.line 71 80 NeverActs) ∷ [])

-- ---- all records, in the order of their lines

abbrev pub record_warnings : Parts → List Warning
record_warnings p =
    flat_map (source_warnings (end_of_run p)) p.tacs_sources
    ++ (flat_map (branch_warnings p) p.branches
    ++ (flat_map (switch_warnings p) p.switches ++ flat_map (source_warnings (end_of_run p)) p.sources))
