-- Beside `Words`: what values hold for their proofs, and what premises say. No clause of the program reaches it.
use Rattle.std.specs.Prelude.{ℤ, pos, ◌≤ℤ◌, ◌≤◌}
use Rattle.emtp_phasor.specs.held.Scanning.{IsScan}
use Rattle.emtp_run.specs.declared.words.BatchWords.{BatchWords}
use Rattle.emtp_run.specs.declared.words.RunWords.{RunWords}
use Rattle.emtp_run.specs.declared.words.ScanWords.{ScanWords}
use Rattle.emtp_run.specs.declared.words.Words.{Words}
use Rattle.emtp_run.specs.declared.words.Words.TheVariants.{Audit as OfAudit, Batch as OfBatch, Phasor as OfPhasor, Run as OfRun, Scan as OfScan, Trial as OfTrial}
use Rattle.emtp_run.specs.Words.{RunFiles, BatchFiles, Scanned, Task, Run, Trial, Batch, Audit, Phasor, Scan}

-- a frequency of a scan, in micro-hertz
pub record IsScanned (frequency : ℤ) : Type 0 where
  pub some : pos 1 ≤ℤ frequency
  pub most : frequency ≤ℤ pos 10000000000000

-- a trial case has from 1 to 900 sections, and a scan few frequencies in order
abbrev pub IsTask : Task → Type 0
IsTask (Run files) = Unit {0}
IsTask (Trial number) = (1 ≤ number) × (number ≤ 900)
IsTask (Batch files) = Unit {0}
IsTask (Audit files) = Unit {0}
IsTask (Phasor case) = Unit {0}
IsTask (Scan s) = IsScan s.first s.last s.by

abbrev pub files_of : RunWords → RunFiles
files_of words = record { case = words.case.now; cfg = words.cfg.now; dat = words.dat.now }

abbrev pub batch_files_of : BatchWords → BatchFiles
batch_files_of words = record { case = words.case.now; times = words.times.now }

abbrev pub scanned_of : ScanWords → Scanned
scanned_of words = record { case = words.case.now; first = words.first; last = words.last; by = words.by }

abbrev pub task_of : Words → Task
task_of (OfRun words) = Run (files_of words)
task_of (OfTrial number) = Trial number
task_of (OfBatch words) = Batch (batch_files_of words)
task_of (OfAudit words) = Audit (files_of words)
task_of (OfPhasor name) = Phasor name.now
task_of (OfScan words) = Scan (scanned_of words)
