-- Beside `Scanning`: what values hold for their proofs, and what premises say. No clause of the program reaches it.
use Rattle.std.specs.Prelude.{◌≡◌, ◌≤◌, ℤ, pos, ◌≤ℤ◌, List, Ok, Err}
use Rattle.emtp_admittance.specs.Probes.{judged_probe}
use Rattle.emtp_admittance.specs.declared.limit.TheConstants.{LARGEST_FREQUENCY}
use Rattle.emtp_admittance.specs.declared.probe.Probe.{Probe}
use Rattle.emtp_case.specs.declared.case.Parts.{Parts}
use Rattle.emtp_phasor.specs.declared.fault.PhasorFault.{PhasorFault}
use Rattle.emtp_phasor.specs.declared.fault.PhasorFault.TheVariants.{Ended as FaultEnded, NoMemory, Refused as FaultRefused}
use Rattle.emtp_phasor.specs.declared.line.ScanLine.{ScanLine}
use Rattle.emtp_phasor.specs.declared.scanning.TheConstants.{MOST_FREQUENCIES}
use Rattle.emtp_phasor.specs.Scanning.{frequency_count, scan_lines}

-- what is scanned: from 1 micro-hertz up, few frequencies
pub record IsScan (first last by : ℤ) : Type 0 where
  pub first_least : pos 1 ≤ℤ first
  pub by_least : pos 1 ≤ℤ by
  pub ordered : first ≤ℤ last
  pub most : last ≤ℤ pos LARGEST_FREQUENCY
  pub few : frequency_count first last by ≤ MOST_FREQUENCIES

-- the case has its source, and each frequency its line
pub record IsScanned (case : Parts) (first last by : ℤ) (lines : List ScanLine) : Type 0 where
  pub probe : Probe
  pub good : judged_probe case ≡ Ok probe
  pub lines_are : lines ≡ scan_lines case probe first last by

-- no end stops a scan, and want of memory is free
abbrev pub FaultsScan : Parts → PhasorFault → Type 0
FaultsScan case (FaultRefused line reason) = judged_probe case ≡ Err (record { line = line; reason = reason })
FaultsScan case (FaultEnded name cause measured) = ⊥
FaultsScan case NoMemory = Unit {0}
