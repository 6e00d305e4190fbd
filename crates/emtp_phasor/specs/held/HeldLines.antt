-- What a scan holds while it goes on.
use Rattle.std.specs.List.{range_with_len}
use Rattle.std.specs.Prelude.{◌≡◌, ℕ, ℤ, List, map}
use Rattle.emtp_admittance.specs.declared.probe.Probe.{Probe}
use Rattle.emtp_case.specs.declared.case.Parts.{Parts}
use Rattle.emtp_phasor.specs.held.HeldSystem.{IsReady}
use Rattle.emtp_phasor.specs.Scanning.{frequency_at, line_at}
use Rattle.emtp_phasor.specs.declared.line.ScanLine.{ScanLine}
use Rattle.emtp_phasor.specs.declared.doubled_system.System.{System}

-- the lines of the first frequencies, and a system that is fit for the next one
pub record HasLines (case : Parts) (probe : Probe) (first by : ℤ) (s : System) (lines : List ScanLine) (count : ℕ) : Type 0 where
  pub ready : IsReady case s
  pub lines_are : lines ≡ map (λ k. line_at case probe (frequency_at first by k)) (range_with_len 0 count)
