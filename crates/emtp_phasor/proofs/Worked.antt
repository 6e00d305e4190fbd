-- The case of one series branch at worked values.
use Rattle.std.proofs.Common.{◌≡◌, ◌^◌, ◌*◌, pos, neg_ℤ, true, [], ◌∷◌, None, Ok, refl}
use Rattle.emtp_fix.specs.Rounding.{near, near_abs}
use Rattle.emtp_elim.specs.Elimination.{last_unknowns, stage, stage_right}
use Rattle.emtp_elim.specs.Fault.{right_fault, row_fault, unknown_fault}
use Rattle.emtp_elim.specs.Outcome.{outcome}
use Rattle.emtp_case.specs.Case.{empty_parts}
use Rattle.emtp_case.specs.NodeRows.{kind_at, row_at}
use Rattle.emtp_case.specs.declared.branch.Branch.TheVariants.{Lumped as OfLumped}
use Rattle.emtp_case.specs.declared.case.Parts.{Parts}
use Rattle.emtp_case.specs.declared.row_kind.RowKind.TheVariants.{Kcl}
use Rattle.emtp_case.specs.declared.run_data.RunData.{RunData}
use Rattle.emtp_case.specs.declared.source.Shape.TheVariants.{Cosine}
use Rattle.emtp_wave.specs.Cosine.{direction, in_quarter}
use Rattle.emtp_admittance.specs.Impedance.{capacitive_reactance, series_port}
use Rattle.emtp_admittance.specs.Probes.{judged_probe}
use Rattle.emtp_admittance.specs.Refusals.{judged_frequency}
use Rattle.emtp_admittance.specs.declared.probe.Probe.{Probe}
use Rattle.emtp_phasor.specs.Doubled.{doubled_matrix}
use Rattle.emtp_phasor.specs.Scanning.{line_at}
use Rattle.emtp_phasor.specs.Steady.{resting_kinds, steady}
use Rattle.emtp_phasor.specs.Volts.{doubled_right, phasors_of}
use Rattle.emtp_phasor.specs.declared.line.ScanAnswer.TheVariants.{Impedance}

run : RunData
run = record { dt = pos (10 ^ 8); steps = 3; every = 1; tolerance = pos (10 ^ 7) }

-- 1 A into 10 ohm, 0.1 H and 10 microfarad
filter : Parts
filter = record (empty_parts run) {
  nodes = [] ∷ [];
  branches = OfLumped (record { line = 1; «from» = 1; to = 0; r = pos (10 ^ 7); l = pos (10 ^ 8); c = pos (10 ^ 10) }) ∷ [];
  sources = record { line = 2; node = 1; current = true; shape = Cosine (pos (50 * 10 ^ 6)) (pos 0); amplitude = pos (10 ^ 9); start = pos 0; stop = None } ∷ [];
}

probe : Probe
probe = record { node = 1; amplitude = pos (10 ^ 9) }

judged : judged_probe filter ≡ Ok probe
unfolding judged_probe filter run probe
judged = refl

own_row : kind_at (resting_kinds filter) (row_at filter 1) ≡ Kcl
unfolding filter run
own_row = refl

-- at 50 Hz it is 10 ohm and 31.415927 ohm less 318.309886 ohm, which is -286.893959 ohm
seen : (line_at filter probe (pos (50 * 10 ^ 6))).answer ≡ Impedance (pos 9999999979) (neg_ℤ (pos 286893958979))
unfolding filter run probe judged_frequency series_port capacitive_reactance steady doubled_matrix doubled_right phasors_of outcome row_fault right_fault unknown_fault stage stage_right last_unknowns near near_abs direction in_quarter
seen = refl
