-- Which cases can be scanned, and the one source that a scan wants.
use Rattle.std.specs.Ordering.{int_eq}
use Rattle.std.specs.Prelude.{pos, int_lt, nat_lt, ◌&&◌, Bool, false, if◌then◌else◌, List, [], ◌∷◌, length, Option, Some, None, Result, Ok, Err}
use Rattle.emtp_fix.specs.Chain.{unless}
use Rattle.emtp_case.specs.Branch.{line_of}
use Rattle.emtp_case.specs.declared.branch.Branch.{Branch}
use Rattle.emtp_case.specs.declared.case.Parts.{Parts}
use Rattle.emtp_case.specs.declared.source.Shape.{Shape}
use Rattle.emtp_case.specs.declared.source.Shape.TheVariants.{Cosine, NodeVoltage, Pulse, Ramp, Saw, Step, SwitchCurrent, SwitchStatus, Tacs}
use Rattle.emtp_case.specs.declared.source.Source.{Source}
use Rattle.emtp_admittance.specs.Impedance.{barring_reason}
use Rattle.emtp_admittance.specs.Refusals.{at_line_one, control_cards, least_refusal, least_switch, refused_in, sooner}
use Rattle.emtp_admittance.specs.declared.limit.TheConstants.{MOST_PHASOR_NODES}
use Rattle.emtp_admittance.specs.declared.probe.Probe.{Probe}
use Rattle.emtp_admittance.specs.declared.refusal.Refusal.TheVariants.{Probe as NoProbe, Size}
use Rattle.emtp_admittance.specs.declared.refusal.Refused.{Refused}

-- ---- the source

abbrev pub is_plain_cosine : Shape → Bool
is_plain_cosine Step = false
is_plain_cosine (Ramp rise) = false
is_plain_cosine (Cosine freq phase) = int_eq phase (pos 0)
is_plain_cosine (Tacs var) = false
is_plain_cosine (Pulse period width) = false
is_plain_cosine (Saw period) = false
is_plain_cosine (NodeVoltage node) = false
is_plain_cosine (SwitchCurrent switch) = false
is_plain_cosine (SwitchStatus switch) = false

-- a cosine current source without phase, with an amplitude above 0
abbrev pub is_probe : Source → Bool
is_probe s = s.current && is_plain_cosine s.shape && int_lt (pos 0) s.amplitude

abbrev pub probe_by : Source → Option Probe
probe_by s = if is_probe s then Some (record { node = s.node; amplitude = s.amplitude }) else None

-- the only source, if it is one
abbrev pub probe_in : List Source → Option Probe
probe_in [] = None
probe_in (s ∷ []) = probe_by s
probe_in (s ∷ other ∷ rest) = None

-- ---- the case

-- a branch that no frequency makes good
abbrev pub branch_barred : Branch → Option Refused
branch_barred b = refused_in (line_of b) (barring_reason b)

-- the card of the least line that no frequency makes good
abbrev pub card_barred : Parts → Option Refused
card_barred case = sooner (control_cards case) (sooner (least_switch case) (least_refusal branch_barred case.branches))

abbrev pub scanned_by : Parts → Option Probe → Result Probe Refused
scanned_by case None = Err (at_line_one NoProbe)
scanned_by case (Some probe) = unless (card_barred case) (λ refused. refused) (Ok probe)

-- the source of a scan, or the refusal that decides
unfoldable pub judged_probe : Parts → Result Probe Refused
judged_probe case =
    if nat_lt MOST_PHASOR_NODES (length case.nodes) then Err (at_line_one Size)
    else scanned_by case (probe_in case.sources)
