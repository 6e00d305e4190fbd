-- Sources that all come later, by whole time steps.
use Rattle.std.specs.Prelude.{◌≡◌, ◌≤ℤ◌, ◌+ℤ◌, ◌*ℤ◌, ℕ, ℤ, pos, All, Bool, true, false, [], map, option_map}
use Rattle.emtp_case.specs.declared.case.Parts.{Parts}
use Rattle.emtp_case.specs.declared.source.Shape.{Shape}
use Rattle.emtp_case.specs.declared.source.Shape.TheVariants.{Ramp, Step}
use Rattle.emtp_case.specs.declared.source.Source.{Source}

-- a source's course is told from its own start, as that of a cosine and of a variable isn't
abbrev pub goes_from_its_start : Shape → Bool
goes_from_its_start Step = true
goes_from_its_start (Ramp rise) = true
goes_from_its_start other = false

-- nothing acts in record 0, which is rest whatever its sources are
pub record BeginsAfterRest (s : Source) : Type 0 where
  pub shape : goes_from_its_start s.shape ≡ true
  pub start : pos 1 ≤ℤ s.start

-- a network without switches, each of whose sources begins after time 0
pub record StartsFromRest (case : Parts) : Type 0 where
  pub switches : case.switches ≡ []
  pub sources : All BeginsAfterRest case.sources

-- the same source, which begins and, where it ends, ends that much later
abbrev pub later_source : ℤ → Source → Source
later_source delay s = record s { start = s.start +ℤ delay; stop = option_map (λ t. t +ℤ delay) s.stop }

-- the same case, all of whose network's sources come k time steps later
abbrev pub with_later_sources : ℕ → Parts → Parts
with_later_sources k case = record case { sources = map (later_source (pos k *ℤ case.run.dt)) case.sources }
