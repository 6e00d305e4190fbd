-- Which cards are refused.
use Rattle.std.specs.Ordering.{int_eq}
use Rattle.std.specs.Option.{ok_or, option_or}
use Rattle.std.specs.Prelude.{ℕ, ℤ, pos, nat_le, nat_lt, Bool, true, false, if◌then◌else◌, List, [], ◌∷◌, length, Option, Some, None, Result, Ok, Err}
use Rattle.std.specs.Result.{result_err}
use Rattle.emtp_fix.specs.Chain.{unless}
use Rattle.emtp_case.specs.Branch.{line_of}
use Rattle.emtp_case.specs.declared.branch.Branch.{Branch}
use Rattle.emtp_case.specs.declared.case.Parts.{Parts}
use Rattle.emtp_case.specs.declared.control.Block.{Block}
use Rattle.emtp_case.specs.declared.control.Extra.{Extra}
use Rattle.emtp_case.specs.declared.control.Extra.TheVariants.{Device as OfDevice, Formula as OfFormula}
use Rattle.emtp_case.specs.declared.source.Shape.{Shape}
use Rattle.emtp_case.specs.declared.source.Shape.TheVariants.{Cosine, NodeVoltage, Pulse, Ramp, Saw, Step, SwitchCurrent, SwitchStatus, Tacs}
use Rattle.emtp_case.specs.declared.source.Source.{Source}
use Rattle.emtp_case.specs.declared.switch.Switch.{Switch}
use Rattle.emtp_case.specs.declared.switch.SwitchKind.{SwitchKind}
use Rattle.emtp_case.specs.declared.switch.SwitchKind.TheVariants.{Control as ControlSwitch, Measuring, Time, Valve}
use Rattle.emtp_admittance.specs.Impedance.{port_of}
use Rattle.emtp_admittance.specs.declared.limit.TheConstants.{MOST_PHASOR_NODES}
use Rattle.emtp_admittance.specs.declared.refusal.Refusal.{Refusal}
use Rattle.emtp_admittance.specs.declared.refusal.Refusal.TheVariants.{Control as OfControl, Switch as OfSwitch, Source as OfSource, Size, NoSource}
use Rattle.emtp_admittance.specs.declared.refusal.Refused.{Refused}

-- the refusal of the lesser line, the first of two of one line
abbrev pub sooner : Option Refused → Option Refused → Option Refused
sooner None b = b
sooner (Some a) None = Some a
sooner (Some a) (Some b) = if nat_le a.line b.line then Some a else Some b

-- the one with the least line that f gives for the items of a list
abbrev pub least_refusal : {X : Type 0} → (X → Option Refused) → List X → Option Refused
least_refusal f [] = None
least_refusal f (x ∷ xs) = sooner (f x) (least_refusal f xs)

-- the card in this line, where there is a reason to refuse it
abbrev pub refused_in : ℕ → Option Refusal → Option Refused
refused_in line None = None
refused_in line (Some reason) = Some (record { line = line; reason = reason })

-- ---- branches

abbrev pub branch_refused : ℤ → Branch → Option Refused
branch_refused freq b = refused_in (line_of b) (result_err (port_of freq b))

abbrev pub least_branch : Parts → ℤ → Option Refused
least_branch case freq = least_refusal (branch_refused freq) case.branches

-- ---- sources

-- whether a source is a cosine, of this frequency where one is asked for
abbrev pub is_cosine : Option ℤ → Shape → Bool
is_cosine asked Step = false
is_cosine asked (Ramp rise) = false
is_cosine None (Cosine freq phase) = true
is_cosine (Some asked) (Cosine freq phase) = int_eq freq asked
is_cosine asked (Tacs var) = false
is_cosine asked (Pulse period width) = false
is_cosine asked (Saw period) = false
is_cosine asked (NodeVoltage node) = false
is_cosine asked (SwitchCurrent switch) = false
is_cosine asked (SwitchStatus switch) = false

abbrev pub source_refused : Option ℤ → Source → Option Refused
source_refused asked s = if is_cosine asked s.shape then None else Some (record { line = s.line; reason = OfSource })

abbrev pub least_source : Parts → Option ℤ → Option Refused
least_source case asked = least_refusal (source_refused asked) case.sources

-- ---- switches and the control

abbrev pub kind_refused : ℕ → SwitchKind → Option Refused
kind_refused line (Time close open_at margin) = None
kind_refused line Measuring = None
kind_refused line (Valve ignition holding control) = Some (record { line = line; reason = OfSwitch })
kind_refused line (ControlSwitch control) = Some (record { line = line; reason = OfSwitch })

abbrev pub switch_refused : Switch → Option Refused
switch_refused s = kind_refused s.line s.kind

abbrev pub least_switch : Parts → Option Refused
least_switch case = least_refusal switch_refused case.switches

abbrev pub control_refused : ℕ → Option Refused
control_refused line = Some (record { line = line; reason = OfControl })

abbrev pub control_line : Extra → ℕ
control_line (OfDevice x) = x.line
control_line (OfFormula x) = x.line

-- ---- the case

-- the first card of the control, which no frequency makes good
abbrev pub control_cards : Parts → Option Refused
control_cards case =
    sooner (least_refusal (λ (s : Source). control_refused s.line) case.tacs_sources)
    (sooner (least_refusal (λ (b : Block). control_refused b.line) case.blocks)
    (least_refusal (λ x. control_refused (control_line x)) case.extras))

-- the refusal with the least line, where the frequency is this and the sources have to have the one that is asked for
abbrev pub least_refused : Parts → ℤ → Option ℤ → Option Refused
least_refused case freq asked =
    sooner (control_cards case) (sooner (least_switch case) (sooner (least_branch case freq) (least_source case asked)))

-- the first frequency of a cosine source that isn't 0
abbrev pub frequency_in : Shape → Option ℤ
frequency_in Step = None
frequency_in (Ramp rise) = None
frequency_in (Cosine freq phase) = if int_eq freq (pos 0) then None else Some freq
frequency_in (Tacs var) = None
frequency_in (Pulse period width) = None
frequency_in (Saw period) = None
frequency_in (NodeVoltage node) = None
frequency_in (SwitchCurrent switch) = None
frequency_in (SwitchStatus switch) = None

abbrev pub first_frequency : List Source → Option ℤ
first_frequency [] = None
first_frequency (s ∷ rest) = option_or (frequency_in s.shape) (first_frequency rest)

abbrev pub at_line_one : Refusal → Refused
at_line_one reason = record { line = 1; reason = reason }

-- the given frequency, or the first one of a source
abbrev pub frequency_of : Option ℤ → Parts → Result ℤ Refused
frequency_of (Some freq) case = Ok freq
frequency_of None case = ok_or (first_frequency case.sources) (at_line_one NoSource)

-- sources have to have the frequency where none was given
abbrev pub frequency_asked : Option ℤ → ℤ → Option ℤ
frequency_asked None freq = Some freq
frequency_asked (Some given) freq = None

abbrev pub judged_at : Parts → Option ℤ → Result ℤ Refused → Result ℤ Refused
judged_at case given (Err r) = Err r
judged_at case given (Ok freq) = unless (least_refused case freq (frequency_asked given freq)) (λ refused. refused) (Ok freq)

-- the frequency of the steady state, or the refusal that decides
unfoldable pub judged_frequency : Parts → Option ℤ → Result ℤ Refused
judged_frequency case given =
    if nat_lt MOST_PHASOR_NODES (length case.nodes) then Err (at_line_one Size)
    else judged_at case given (frequency_of given case)
