-- The lines of the network: for each kind of record one table of entries, with names, places, units and values.
use Rattle.std.specs.Prelude.{◌++◌, ◌∷◌, [], ◌*ℤ◌, Bool, true, false, List, codes, ℕ, ℤ, slice_index_or, pos}
use Rattle.emtp_case.specs.Branch.{points_of}
use Rattle.emtp_case.specs.declared.branch.Branch.{Branch}
use Rattle.emtp_case.specs.declared.branch.Branch.TheVariants.{Line as OfLine, Lumped as OfLumped, Phase as OfPhase, Pseudo as OfPseudo}
use Rattle.emtp_case.specs.declared.branch.Line.{Line}
use Rattle.emtp_case.specs.declared.branch.Lumped.{Lumped}
use Rattle.emtp_case.specs.declared.branch.Phase.{Phase}
use Rattle.emtp_case.specs.declared.branch.Pseudo.{Pseudo}
use Rattle.emtp_case.specs.declared.branch.Trio.{Trio}
use Rattle.emtp_case.specs.declared.source.Shape.{Shape}
use Rattle.emtp_case.specs.declared.source.Shape.TheVariants.{Cosine, NodeVoltage, Pulse, Ramp, Saw, Step, SwitchCurrent, SwitchStatus, Tacs}
use Rattle.emtp_case.specs.declared.source.Source.{Source}
use Rattle.emtp_case.specs.declared.switch.Switch.{Switch}
use Rattle.emtp_case.specs.declared.switch.SwitchKind.{SwitchKind}
use Rattle.emtp_case.specs.declared.switch.SwitchKind.TheVariants.{Control, Measuring, Time, Valve}
use Rattle.emtp_case.specs.declared.branch.Point.{Point}
use Rattle.emtp_fix.specs.Rounding.{near}
use Rattle.emtp_listing.specs.Entry.{choice_entry, count_entry, node_entry, number_entry, place_entry, time_entry, variable_entry}
use Rattle.emtp_listing.specs.Lines.{all_separated, card_line, head_text, numbered}

-- ---- branches

abbrev pub series_entries : List (List ℕ) → Lumped → List (List ℕ)
series_entries nodes b =
    node_entry (codes "BUS1") nodes b.from
    ∷ node_entry (codes "BUS2") nodes b.to
    ∷ number_entry (codes "R") 6 (codes "ohm") b.r
    ∷ number_entry (codes "L") 6 (codes "mH") b.l
    ∷ number_entry (codes "C") 9 (codes "uF") b.c
    ∷ []

abbrev pub line_entries : List (List ℕ) → Line → List (List ℕ)
line_entries nodes b =
    node_entry (codes "BUS1") nodes b.from
    ∷ node_entry (codes "BUS2") nodes b.to
    ∷ number_entry (codes "surge impedance") 6 (codes "ohm") b.zc
    ∷ number_entry (codes "R") 6 (codes "ohm") b.r
    ∷ number_entry (codes "travel time") 12 (codes "s") b.delay
    ∷ []

abbrev pub pseudo_word : Bool → List ℕ
pseudo_word false = codes "nonlinear resistor"
pseudo_word true = codes "nonlinear reactor"

abbrev pub pseudo_entries : List (List ℕ) → Pseudo → List (List ℕ)
pseudo_entries nodes b =
    node_entry (codes "BUS1") nodes b.from
    ∷ node_entry (codes "BUS2") nodes b.to
    ∷ place_entry (codes "first point") b.first
    ∷ count_entry (codes "points") b.count
    ∷ []

abbrev pub phase_entries : List (List ℕ) → Phase → List (List ℕ)
phase_entries nodes b =
    node_entry (codes "BUS1") nodes b.from
    ∷ node_entry (codes "BUS2") nodes b.to
    ∷ place_entry (codes "three-phase line") b.trio
    ∷ place_entry (codes "phase") b.phase
    ∷ []

abbrev pub branch_line : List (List ℕ) → Branch → List ℕ
branch_line nodes (OfLumped b) = card_line b.line (codes "series branch") (series_entries nodes b)
branch_line nodes (OfLine b) = card_line b.line (codes "line") (line_entries nodes b)
branch_line nodes (OfPseudo b) = card_line b.line (pseudo_word b.reactor) (pseudo_entries nodes b)
branch_line nodes (OfPhase b) = card_line b.line (codes "phase of a line") (phase_entries nodes b)

-- ---- points of a characteristic: the current, and the voltage of a resistor or the flux of a reactor

abbrev pub segment_entries : Bool → Point → List (List ℕ)
segment_entries false p =
    number_entry (codes "current") 9 (codes "A") p.current ∷ number_entry (codes "voltage") 9 (codes "V") p.other ∷ []
segment_entries true p =
    number_entry (codes "current") 9 (codes "A") p.current ∷ number_entry (codes "flux") 12 (codes "Wb") p.other ∷ []

abbrev pub segment_line : Bool → ℕ → Point → List ℕ
segment_line reactor number p = head_text (codes "point") number ++ all_separated (segment_entries reactor p)

-- a branch and its points
abbrev pub branch_points : List Point → Branch → List (List ℕ)
branch_points points (OfLumped b) = []
branch_points points (OfLine b) = []
branch_points points (OfPseudo b) = numbered (segment_line b.reactor) 1 (points_of points b.first b.count)
branch_points points (OfPhase b) = []

abbrev pub branch_group : List (List ℕ) → List Point → Branch → List (List ℕ)
branch_group nodes points b = branch_line nodes b ∷ branch_points points b

-- ---- the modes of three-phase lines: at place 0 the zero sequence, at place 1 the positive sequence

abbrev pub trio_entries : Trio → List (List ℕ)
trio_entries t =
    place_entry (codes "first branch") t.first
    ∷ number_entry (codes "zero surge impedance") 6 (codes "ohm") (slice_index_or t.zc 0 (pos 0))
    ∷ number_entry (codes "zero R") 6 (codes "ohm") (slice_index_or t.r 0 (pos 0))
    ∷ number_entry (codes "zero travel time") 12 (codes "s") (slice_index_or t.delay 0 (pos 0))
    ∷ number_entry (codes "positive surge impedance") 6 (codes "ohm") (slice_index_or t.zc 1 (pos 0))
    ∷ number_entry (codes "positive R") 6 (codes "ohm") (slice_index_or t.r 1 (pos 0))
    ∷ number_entry (codes "positive travel time") 12 (codes "s") (slice_index_or t.delay 1 (pos 0))
    ∷ []

abbrev pub trio_line : Trio → List ℕ
trio_line t = codes "modes" ++ all_separated (trio_entries t)

-- ---- switches

abbrev pub switch_word : SwitchKind → List ℕ
switch_word (Time close open_at margin) = codes "time switch"
switch_word Measuring = codes "measuring switch"
switch_word (Valve ignition holding control) = codes "valve"
switch_word (Control control) = codes "controlled switch"

abbrev pub switch_kind_entries : List (List ℕ) → SwitchKind → List (List ℕ)
switch_kind_entries vars (Time close open_at margin) =
    number_entry (codes "T-CLOSE") 12 (codes "s") close
    ∷ time_entry (codes "T-OPEN") open_at
    ∷ number_entry (codes "margin") 9 (codes "A") margin
    ∷ []
switch_kind_entries vars Measuring = []
switch_kind_entries vars (Valve ignition holding control) =
    number_entry (codes "ignition") 9 (codes "V") ignition
    ∷ number_entry (codes "holding") 9 (codes "A") holding
    ∷ choice_entry (codes "control") (codes "(always)") vars control
    ∷ []
switch_kind_entries vars (Control control) = variable_entry (codes "control") vars control ∷ []

abbrev pub switch_line : List (List ℕ) → List (List ℕ) → Switch → List ℕ
switch_line nodes vars s =
    card_line s.line (switch_word s.kind)
    (node_entry (codes "BUS1") nodes s.from ∷ node_entry (codes "BUS2") nodes s.to ∷ switch_kind_entries vars s.kind)

-- ---- sources of the network

abbrev pub source_word : Bool → List ℕ
source_word false = codes "voltage source"
source_word true = codes "current source"

abbrev pub source_unit : Bool → List ℕ
source_unit false = codes "V"
source_unit true = codes "A"

-- a phase in 10^-18 turn, in 10^-9 degree: 360 / 10^9 of it
abbrev pub degrees : ℤ → ℤ
degrees phase = near (pos 9 *ℤ phase) (pos 25000000)

-- the course of a source in time: of the network, and of the control
abbrev pub shape_entries : List (List ℕ) → List (List ℕ) → Shape → List (List ℕ)
shape_entries nodes vars Step = codes "step" ∷ []
shape_entries nodes vars (Ramp rise) = codes "ramp" ∷ number_entry (codes "T0") 12 (codes "s") rise ∷ []
shape_entries nodes vars (Cosine freq phase) =
    codes "cosine" ∷ number_entry (codes "frequency") 6 (codes "Hz") freq ∷ number_entry (codes "phase") 18 (codes "turn") phase
    ∷ number_entry (codes "angle") 9 (codes "degree") (degrees phase) ∷ []
shape_entries nodes vars (Tacs var) = codes "driven" ∷ variable_entry (codes "control") vars var ∷ []
shape_entries nodes vars (Pulse period width) =
    codes "pulse" ∷ number_entry (codes "period") 12 (codes "s") period ∷ number_entry (codes "width") 12 (codes "s") width ∷ []
shape_entries nodes vars (Saw period) = codes "sawtooth" ∷ number_entry (codes "period") 12 (codes "s") period ∷ []
shape_entries nodes vars (NodeVoltage node) = codes "voltage of a node" ∷ node_entry (codes "node") nodes node ∷ []
shape_entries nodes vars (SwitchCurrent switch) = codes "current of a switch" ∷ place_entry (codes "switch") switch ∷ []
shape_entries nodes vars (SwitchStatus switch) = codes "state of a switch" ∷ place_entry (codes "switch") switch ∷ []

abbrev pub source_line : List (List ℕ) → List (List ℕ) → Source → List ℕ
source_line nodes vars s =
    card_line s.line (source_word s.current)
    (node_entry (codes "NAME") nodes s.node
    ∷ number_entry (codes "amplitude") 9 (source_unit s.current) s.amplitude
    ∷ number_entry (codes "TSTART") 12 (codes "s") s.start
    ∷ time_entry (codes "TSTOP") s.stop
    ∷ shape_entries nodes vars s.shape)
