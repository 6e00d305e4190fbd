-- Two cases that differ only in what their sources do after a step.
use Rattle.std.specs.Prelude.{◌≡◌, ◌≤◌, ℕ, ℤ, if◌then◌else◌, int_lt, Bool, List, map, Option, Some, None}
use Rattle.emtp_case.specs.RunData.{time_of}
use Rattle.emtp_case.specs.declared.case.Parts.{Parts}
use Rattle.emtp_case.specs.declared.run_data.RunData.{RunData}
use Rattle.emtp_case.specs.declared.source.Source.{Source}
use Rattle.emtp_machine.specs.History.{history, history_upto, samples}
use Rattle.emtp_tacs.specs.Step.{Measured, source_value}
use Rattle.emtp_wave.specs.Wave.{value_of}
use Rattle.emtp_laws.specs.Runs.{BeginsWith}

-- what the network sees of a source in a step: its node, its kind, and its value where the control's variables had these
-- values in the record before
pub record InNetwork : Type 0 where
  pub node : ℕ
  pub current : Bool
  pub value : ℤ

abbrev pub in_network : RunData → ℕ → List ℤ → Source → InNetwork
in_network run step variables s = record { node = s.node; current = s.current; value = value_of run variables s step }

-- what the control sees of a source in a step: its variable, and its value where this is measured in the network
pub record InControl : Type 0 where
  pub variable : ℕ
  pub value : ℤ

abbrev pub in_control : Parts → ℕ → Measured → Source → InControl
in_control case step measured s = record { variable = s.node; value = source_value case step measured s s.shape }

-- The cases differ in what their sources do after step n, and in nothing else: in each step up to n, the first of which is
-- step 1, network and control see the same of them, source by source, whatever the control's variables are and whatever is
-- measured.
pub record DifferAfter (n : ℕ) (case other : Parts) : Type 0 where
  pub else_same : other ≡ record case { sources = other.sources; tacs_sources = other.tacs_sources }
  pub network : (k : ℕ) → 1 ≤ k → k ≤ n → (variables : List ℤ)
      → map (in_network case.run k variables) other.sources ≡ map (in_network case.run k variables) case.sources
  pub control : (k : ℕ) → 1 ≤ k → k ≤ n → (measured : Measured)
      → map (in_control case k measured) other.tacs_sources ≡ map (in_control case k measured) case.tacs_sources

-- the end of a source that comes before a time; one that comes at it or later hasn't come
abbrev pub stop_before : ℤ → Option ℤ → Option ℤ
stop_before time None = None
stop_before time (Some stop) = if int_lt stop time then Some stop else None

-- a source as far as a time shows it
abbrev pub as_far_as : ℤ → Source → Source
as_far_as time s = record s { stop = stop_before time s.stop }

-- the cases differ in ends of sources, TSTOP, that come no sooner than step n, and in nothing else
pub record DifferInLaterStops (n : ℕ) (case other : Parts) : Type 0 where
  pub else_same : other ≡ record case { sources = other.sources; tacs_sources = other.tacs_sources }
  pub network : map (as_far_as (time_of case.run n)) other.sources ≡ map (as_far_as (time_of case.run n)) case.sources
  pub control : map (as_far_as (time_of case.run n)) other.tacs_sources ≡ map (as_far_as (time_of case.run n)) case.tacs_sources

-- the same records as far as step n, and the same end where one comes by then
abbrev pub AgreeUpto : ℕ → Parts → Parts → Type 0
AgreeUpto n case other = (k : ℕ) → k ≤ n → history_upto other k ≡ history_upto case k

-- the samples of the other run begin with those of the case up to each step as far as step n
abbrev pub SamplesAgreeUpto : ℕ → Parts → Parts → Type 0
SamplesAgreeUpto n case other =
    (k : ℕ) → k ≤ n → k ≤ case.run.steps
    → BeginsWith (samples other (history other)) (samples case (history_upto case k))
