-- The times within which a source acts, in ps.
use Rattle.std.specs.Prelude.{◌≡◌, ◌⊎◌, ◌<ℤ◌, ◌≤ℤ◌, ◌*ℤ◌, ◌∷◌, [], ℤ, pos, false, List, All, length, IfSome, IsSomeAnd}
use Rattle.emtp_case.specs.StepRecord.{StepRecord}
use Rattle.emtp_case.specs.declared.case.Parts.{Parts}
use Rattle.emtp_case.specs.declared.source.Shape.TheVariants.{Step}
use Rattle.emtp_case.specs.declared.source.Source.{Source}
use Rattle.emtp_elim.specs.Matrix.{item}

-- a time is before a source's start, or after its stop
abbrev pub IsOutside : Source → ℤ → Type 0
IsOutside s t = (t <ℤ s.start) ⊎ IsSomeAnd s.stop (λ stop. stop <ℤ t)

-- it is neither; start and stop themselves are within
pub record IsWithin (s : Source) (t : ℤ) : Type 0 where
  pub begun : s.start ≤ℤ t
  pub going : IfSome s.stop (λ stop. t ≤ℤ stop)

-- outside its times a source has the value 0, and within them that of a step is its amplitude
pub record ActsWithin (s : Source) (t value : ℤ) : Type 0 where
  pub outside : IsOutside s t → value ≡ pos 0
  pub inside : s.shape ≡ Step → IsWithin s t → value ≡ s.amplitude

-- the node of each voltage source has such a value in the last record of a run, at the time of its step; record 0 is rest
abbrev pub AreTimesKept : Parts → List StepRecord → Type 0
AreTimesKept case [] = Unit {0}
AreTimesKept case (r ∷ []) = Unit {0}
AreTimesKept case (r ∷ q ∷ past) =
    All (λ (s : Source). s.current ≡ false → ActsWithin s (pos (length (q ∷ past)) *ℤ case.run.dt) (item r.voltages s.node)) case.sources
