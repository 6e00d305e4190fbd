-- The texts of steady states and scans. The numbers of their lines are this project's own.
use Rattle.std.specs.Fmt.{signed_decimal}
use Rattle.std.specs.Prelude.{ℕ, zero, suc, ◌+◌, ◌*◌, ℤ, pos, unsigned_abs, nat_lt, ◌&&◌, Bool, true, false, List, [], ◌∷◌, ◌++◌, length, slice_index_or, codes, decimal, Option, Some, None}
use Rattle.emtp_fix.specs.Decimal.{fixed_text}
use Rattle.emtp_admittance.specs.declared.refusal.Refusal.{Refusal}
use Rattle.emtp_admittance.specs.declared.refusal.Refusal.TheVariants.{Control, Impedance as ImpedanceRefusal, Loss, NoSource, Nonlinear, Phases, Probe, Size, Source, Switch}
use Rattle.emtp_machine.specs.End.{cause_text}
use Rattle.emtp_machine.specs.declared.end.Cause.{Cause}
use Rattle.emtp_phasor.specs.declared.line.ScanAnswer.{ScanAnswer}
use Rattle.emtp_phasor.specs.declared.line.ScanAnswer.TheVariants.{Ended, Impedance, Refused}
use Rattle.emtp_phasor.specs.declared.line.ScanLine.{ScanLine}
use Rattle.emtp_phasor.specs.declared.phasor.Phasor.{Phasor}
use Rattle.emtp_phasor_text.specs.declared.texts.TheConstants.{HERTZ_PLACES, NANO_PLACES}

-- ---- refusals and ends

abbrev pub refusal_number : Refusal → ℕ
refusal_number Size = 31
refusal_number NoSource = 32
refusal_number Control = 33
refusal_number Switch = 34
refusal_number Nonlinear = 35
refusal_number Loss = 36
refusal_number Phases = 37
refusal_number ImpedanceRefusal = 38
refusal_number Source = 39
refusal_number Probe = 40

abbrev pub refusal_name : Refusal → List ℕ
refusal_name Size = codes "Size"
refusal_name NoSource = codes "NoSource"
refusal_name Control = codes "Control"
refusal_name Switch = codes "Switch"
refusal_name Nonlinear = codes "Nonlinear"
refusal_name Loss = codes "Loss"
refusal_name Phases = codes "Phases"
refusal_name ImpedanceRefusal = codes "Impedance"
refusal_name Source = codes "Source"
refusal_name Probe = codes "Probe"

-- which card is refused, and why
unfoldable pub refusal_note : ℕ → Refusal → List ℕ
refusal_note line reason =
    codes "REFUSED LINE " ++ decimal line ++ codes " REASON " ++ decimal (refusal_number reason) ++ codes " "
    ++ refusal_name reason ++ codes "\n"

-- how a solution ended
unfoldable pub steady_end_note : Cause → List ℕ → ℤ → List ℕ
steady_end_note cause name measured = codes "PHASOR ENDED " ++ cause_text cause name measured ++ codes "\n"

-- ---- a steady state

abbrev pub zero_phasor : Phasor
zero_phasor = record { re = pos 0; im = pos 0 }

-- the line of a node
unfoldable pub node_line : List ℕ → Phasor → List ℕ
node_line name v =
    codes "NODE " ++ name ++ codes " RE " ++ fixed_text v.re NANO_PLACES ++ codes " IM "
    ++ fixed_text v.im NANO_PLACES ++ codes "\n"

-- the lines of the first nodes
abbrev pub node_lines : List (List ℕ) → List Phasor → ℕ → List ℕ
node_lines names volts zero = []
node_lines names volts (suc n) =
    node_lines names volts n ++ node_line (slice_index_or names n []) (slice_index_or volts n zero_phasor)

-- the first line
unfoldable pub steady_line : ℤ → ℤ → List ℕ
steady_line freq residual =
    codes "PHASOR F " ++ fixed_text freq HERTZ_PLACES ++ codes " RESIDUAL " ++ signed_decimal residual ++ codes "\n"

abbrev pub steady_summary : List (List ℕ) → ℤ → ℤ → List Phasor → List ℕ
steady_summary names freq residual volts = steady_line freq residual ++ node_lines names volts (length names)

-- ---- a scan

unfoldable pub answer_text : ScanAnswer → List ℕ
answer_text (Impedance re im) = codes "RE " ++ fixed_text re NANO_PLACES ++ codes " IM " ++ fixed_text im NANO_PLACES
answer_text (Refused line) = codes "REFUSED LINE " ++ decimal line
answer_text (Ended name cause measured) = codes "ENDED " ++ cause_text cause name measured

-- the line of a frequency
unfoldable pub scan_line : ScanLine → List ℕ
scan_line l = codes "F " ++ fixed_text l.freq HERTZ_PLACES ++ codes " " ++ answer_text l.answer ++ codes "\n"

abbrev pub scan_line_texts : List ScanLine → List ℕ
scan_line_texts [] = []
scan_line_texts (l ∷ more) = scan_line l ++ scan_line_texts more

-- the square of an impedance's magnitude
abbrev pub square_size : ℤ → ℤ → ℕ
square_size re im = unsigned_abs re * unsigned_abs re + unsigned_abs im * unsigned_abs im

abbrev pub size_seen : ScanAnswer → Option ℕ
size_seen (Impedance re im) = Some (square_size re im)
size_seen (Refused line) = None
size_seen (Ended name cause measured) = None

-- all three are there, and the middle one is greater than both others
abbrev pub is_peak : Option ℕ → Option ℕ → Option ℕ → Bool
is_peak None here after = false
is_peak (Some before) None after = false
is_peak (Some before) (Some here) None = false
is_peak (Some before) (Some here) (Some after) = nat_lt before here && nat_lt after here

-- the line of a resonance at the middle one of three lines
abbrev pub resonance_by : Bool → ℤ → List ℕ
resonance_by false freq = []
resonance_by true freq = codes "RESONANCE " ++ fixed_text freq HERTZ_PLACES ++ codes "\n"

unfoldable pub resonance_line : ScanLine → ScanLine → ScanLine → List ℕ
resonance_line before here after =
    resonance_by (is_peak (size_seen before.answer) (size_seen here.answer) (size_seen after.answer)) here.freq

-- for each line but the first and the last
abbrev pub resonance_lines : List ScanLine → List ℕ
resonance_lines [] = []
resonance_lines (a ∷ []) = []
resonance_lines (a ∷ b ∷ []) = []
resonance_lines (a ∷ b ∷ c ∷ more) = resonance_line a b c ++ resonance_lines (b ∷ c ∷ more)

abbrev pub scan_summary : List ScanLine → List ℕ
scan_summary lines = scan_line_texts lines ++ resonance_lines lines
