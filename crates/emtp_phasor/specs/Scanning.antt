-- The impedance over frequencies, line by line.
use Rattle.std.specs.List.{range_with_len}
use Rattle.std.specs.Prelude.{ℕ, ◌+◌, ◌/◌, ℤ, pos, ◌+ℤ◌, ◌-ℤ◌, ◌*ℤ◌, unsigned_abs, List, map, Option, Some, None, Result, Ok, Err}
use Rattle.emtp_fix.specs.Limit.{in_range}
use Rattle.emtp_fix.specs.Rounding.{near}
use Rattle.emtp_fix.specs.declared.limit.TheConstants.{NANO}
use Rattle.emtp_admittance.specs.Refusals.{judged_frequency}
use Rattle.emtp_admittance.specs.declared.probe.Probe.{Probe}
use Rattle.emtp_admittance.specs.declared.refusal.Refused.{Refused}
use Rattle.emtp_case.specs.declared.case.Parts.{Parts}
use Rattle.emtp_machine.specs.Next.{node_name}
use Rattle.emtp_phasor.specs.Steady.{State, steady}
use Rattle.emtp_phasor.specs.Volts.{volt_at}
use Rattle.emtp_machine.specs.declared.end.Cause.TheVariants.{Range}
use Rattle.emtp_phasor.specs.declared.ending.Ending.{Ending}
use Rattle.emtp_phasor.specs.declared.line.ScanAnswer.{ScanAnswer}
use Rattle.emtp_phasor.specs.declared.line.ScanAnswer.TheVariants.{Ended as LineEnded, Impedance, Refused as LineRefused}
use Rattle.emtp_phasor.specs.declared.line.ScanLine.{ScanLine}
use Rattle.emtp_phasor.specs.declared.phasor.Phasor.{Phasor}

-- ---- frequencies

abbrev pub frequency_count : ℤ → ℤ → ℤ → ℕ
frequency_count first last by = unsigned_abs (last -ℤ first) / unsigned_abs by + 1

-- each frequency is the one before and a step more
abbrev pub frequency_at : ℤ → ℤ → ℕ → ℤ
frequency_at first by k = first +ℤ pos k *ℤ by

-- ---- a line

-- an end, told by the name of its node
abbrev pub told_end : Parts → Ending → ScanAnswer
told_end case end = LineEnded (node_name case end.node) end.cause end.measured

-- both parts of an impedance, where they are in range
abbrev pub impedance_or_range : Parts → ℕ → Option ℤ → Option ℤ → ScanAnswer
impedance_or_range case node None im = LineEnded (node_name case node) Range (pos 0)
impedance_or_range case node (Some re) None = LineEnded (node_name case node) Range (pos 0)
impedance_or_range case node (Some re) (Some im) = Impedance re im

-- a part of a voltage over the amplitude of the source, in 10^-9 ohm
abbrev pub over_amplitude : ℤ → Probe → Option ℤ
over_amplitude part probe = in_range (near (part *ℤ NANO) probe.amplitude)

abbrev pub impedance_seen : Parts → Probe → Phasor → ScanAnswer
impedance_seen case probe v = impedance_or_range case probe.node (over_amplitude v.re probe) (over_amplitude v.im probe)

abbrev pub answer_of_state : Parts → Probe → Result State Ending → ScanAnswer
answer_of_state case probe (Ok state) = impedance_seen case probe (volt_at state.volts probe.node)
answer_of_state case probe (Err end) = told_end case end

-- the answer at a frequency, which may have a refused card
abbrev pub answer_by : Parts → Probe → Result ℤ Refused → ScanAnswer
answer_by case probe (Ok freq) = answer_of_state case probe (steady case freq)
answer_by case probe (Err refused) = LineRefused refused.line

-- a line is what the steady state at its frequency alone says
abbrev pub line_at : Parts → Probe → ℤ → ScanLine
line_at case probe freq = record { freq = freq; answer = answer_by case probe (judged_frequency case (Some freq)) }

-- ---- a scan

-- a line for each frequency
abbrev pub scan_lines : Parts → Probe → ℤ → ℤ → ℤ → List ScanLine
scan_lines case probe first last by =
    map (λ k. line_at case probe (frequency_at first by k)) (range_with_len 0 (frequency_count first last by))
