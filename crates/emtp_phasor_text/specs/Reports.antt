-- What is told of a case: a summary, the card that is refused, or how the solution ended.
use Rattle.std.specs.Prelude.{ℤ, pos, drop, Option, Result, Ok, Err}
use Rattle.emtp_admittance.specs.Probes.{judged_probe}
use Rattle.emtp_admittance.specs.Refusals.{judged_frequency}
use Rattle.emtp_admittance.specs.declared.probe.Probe.{Probe}
use Rattle.emtp_admittance.specs.declared.refusal.Refused.{Refused}
use Rattle.emtp_case.specs.declared.case.Parts.{Parts}
use Rattle.emtp_machine.specs.Next.{node_name}
use Rattle.emtp_phasor.specs.Scanning.{scan_lines}
use Rattle.emtp_phasor.specs.Steady.{State, steady}
use Rattle.emtp_phasor.specs.declared.ending.Ending.{Ending}
use Rattle.emtp_phasor_text.specs.Texts.{refusal_note, scan_summary, steady_end_note, steady_summary}
use Rattle.emtp_phasor_text.specs.declared.report.Report.{Report}
use Rattle.emtp_phasor_text.specs.declared.report.Report.TheVariants.{Ended as TellsEnd, Refused as TellsRefusal, Summary}

-- of the solution at a frequency: its voltages behind that of ground, or its end
abbrev pub told_state : Parts → ℤ → Result State Ending → Report
told_state case freq (Ok state) = Summary (steady_summary case.nodes freq (pos state.residual) (drop 1 state.volts))
told_state case freq (Err end) = TellsEnd (steady_end_note end.cause (node_name case end.node) end.measured)

abbrev pub told_frequency : Parts → Result ℤ Refused → Report
told_frequency case (Ok freq) = told_state case freq (steady case freq)
told_frequency case (Err r) = TellsRefusal (refusal_note r.line r.reason)

-- of a steady state, at the given frequency or that of the first source
unfoldable pub steady_report : Parts → Option ℤ → Report
steady_report case given = told_frequency case (judged_frequency case given)

abbrev pub told_probe : Parts → ℤ → ℤ → ℤ → Result Probe Refused → Report
told_probe case first last by (Ok probe) = Summary (scan_summary (scan_lines case probe first last by))
told_probe case first last by (Err r) = TellsRefusal (refusal_note r.line r.reason)

-- of a scan
unfoldable pub scan_report : Parts → ℤ → ℤ → ℤ → Report
scan_report case first last by = told_probe case first last by (judged_probe case)
