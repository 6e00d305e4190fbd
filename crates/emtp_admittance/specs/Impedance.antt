-- The admittances of branches at a frequency, which is in micro-hertz.
use Rattle.std.specs.Ordering.{int_eq}
use Rattle.std.specs.Option.{ok_or}
use Rattle.std.specs.Prelude.{◌||◌, ◌^◌, ◌*◌, ℤ, pos, neg_ℤ, ◌+ℤ◌, ◌-ℤ◌, ◌*ℤ◌, unsigned_abs, nat_lt, Bool, if◌then◌else◌, List, map, Option, Some, None, Result, Ok, Err}
use Rattle.emtp_fix.specs.Chain.{unless}
use Rattle.emtp_fix.specs.Rounding.{near}
use Rattle.emtp_fix.specs.declared.limit.TheConstants.{ATTO, LARGEST_ENTRY, LARGEST_IMPEDANCE, PICO}
use Rattle.emtp_case.specs.declared.branch.Branch.{Branch}
use Rattle.emtp_case.specs.declared.branch.Branch.TheVariants.{Lumped as OfLumped, Line as OfLine, Pseudo as OfPseudo, Phase as OfPhase}
use Rattle.emtp_case.specs.declared.branch.Line.{Line}
use Rattle.emtp_case.specs.declared.branch.Lumped.{Lumped}
use Rattle.emtp_case.specs.declared.case.Parts.{Parts}
use Rattle.emtp_wave.specs.Cosine.{cosine}
use Rattle.emtp_admittance.specs.Admittances.{no_port}
use Rattle.emtp_admittance.specs.declared.admittance.Admittance.{Admittance}
use Rattle.emtp_admittance.specs.declared.admittance.TwoPort.{TwoPort}
use Rattle.emtp_admittance.specs.declared.refusal.Refusal.{Refusal}
use Rattle.emtp_admittance.specs.declared.refusal.Refusal.TheVariants.{Impedance, Loss, Nonlinear, Phases}

-- ---- series branches

-- w, 2 pi times the frequency, in 10^-9 radians a second
abbrev pub angular_frequency : ℤ → ℤ
angular_frequency freq = near (pos 6283185307179586 *ℤ freq) PICO

-- XL = w L and XC = 1 / (w C), in micro-ohm; an absent part, which is 0, gives 0
abbrev pub inductive_reactance : ℤ → ℤ → ℤ
inductive_reactance w l = near (w *ℤ l) PICO

unfoldable pub capacitive_reactance : ℤ → ℤ → ℤ
capacitive_reactance w c = if int_eq c (pos 0) then pos 0 else near (pos (10 ^ 30)) (w *ℤ c)

-- R² + X², the square of the impedance's magnitude
abbrev pub squared : ℤ → ℤ → ℤ
squared r x = r *ℤ r +ℤ x *ℤ x

-- 1 / (R + jX) = (R - jX) / (R² + X²)
abbrev pub inverse : ℤ → ℤ → Admittance
inverse r x = record { conductance = near (r *ℤ ATTO) (squared r x); susceptance = neg_ℤ (near (x *ℤ ATTO) (squared r x)) }

-- the same admittance with its sign turned
abbrev pub opposite_admittance : Admittance → Admittance
opposite_admittance y = record { conductance = neg_ℤ y.conductance; susceptance = neg_ℤ y.susceptance }

-- an admittance between the two ends
abbrev pub across_ends : Admittance → TwoPort
across_ends y = record { own = y; other = opposite_admittance y }

-- the magnitude is at least 10 micro-ohm
abbrev pub across_impedance : ℤ → ℤ → Option TwoPort
across_impedance r x = if nat_lt (unsigned_abs (squared r x)) 100 then None else Some (across_ends (inverse r x))

abbrev pub is_too_large : ℤ → Bool
is_too_large x = nat_lt LARGEST_IMPEDANCE (unsigned_abs x)

-- a resistance and two reactances in series
abbrev pub reactance_port : ℤ → ℤ → ℤ → Option TwoPort
reactance_port r inductive capacitive =
    if is_too_large inductive || is_too_large capacitive then None else across_impedance r (inductive -ℤ capacitive)

unfoldable pub series_port : ℤ → Lumped → Option TwoPort
series_port w b = reactance_port b.r (inductive_reactance w b.l) (capacitive_reactance w b.c)

-- ---- lossless lines

abbrev pub susceptance : ℤ → Admittance
susceptance b = record { conductance = pos 0; susceptance = b }

-- the line of a surge impedance whose travel is a turn with this cosine and sine: b11 = -cos / (zc sin), b12 = 1 / (zc sin)
abbrev pub lossless_port : ℤ → ℤ → ℤ → Option TwoPort
lossless_port cs sn zc =
    if nat_lt LARGEST_ENTRY (unsigned_abs (near (pos (10 ^ 30)) (sn *ℤ zc))) then None
    else Some (record {
      own = susceptance (neg_ℤ (near (cs *ℤ ATTO) (sn *ℤ zc)));
      other = susceptance (near (pos (10 ^ 30)) (sn *ℤ zc));
    })

abbrev pub turn_port : ℤ → ℤ → ℤ → Option TwoPort
turn_port cs sn zc = if int_eq sn (pos 0) then None else lossless_port cs sn zc

-- frequency times travel time is in 10^-18 turn, and a sine is the cosine a quarter turn before
unfoldable pub line_port : ℤ → Line → Option TwoPort
line_port freq b = turn_port (cosine (freq *ℤ b.delay)) (cosine (freq *ℤ b.delay -ℤ pos (25 * 10 ^ 16))) b.zc

-- ---- all branches

-- why no frequency makes a branch good
abbrev pub barring_reason : Branch → Option Refusal
barring_reason (OfLumped b) = None
barring_reason (OfLine b) = if int_eq b.r (pos 0) then None else Some Loss
barring_reason (OfPseudo b) = Some Nonlinear
barring_reason (OfPhase b) = Some Phases

-- the two-port of a branch that isn't barred
abbrev pub linear_port : ℤ → Branch → Option TwoPort
linear_port freq (OfLumped b) = series_port (angular_frequency freq) b
linear_port freq (OfLine b) = line_port freq b
linear_port freq (OfPseudo b) = None
linear_port freq (OfPhase b) = None

-- the two-port of a branch, or why it has none
abbrev pub port_of : ℤ → Branch → Result TwoPort Refusal
port_of freq b = unless (barring_reason b) (λ reason. reason) (ok_or (linear_port freq b) Impedance)

abbrev pub port_or_none : Result TwoPort Refusal → TwoPort
port_or_none (Ok y) = y
port_or_none (Err reason) = no_port

-- the two-ports of all branches
abbrev pub ports_of : Parts → ℤ → List TwoPort
ports_of case freq = map (λ b. port_or_none (port_of freq b)) case.branches
