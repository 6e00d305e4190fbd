-- The range of a time step, and what the numbers of the miscellaneous cards hold. No clause of the program reaches it.
use Rattle.emtp_case.specs.declared.limit.TheConstants.{LARGEST_TIME_STEP, LEAST_TIME_STEP, MOST_STEPS}
use Rattle.emtp_case.specs.held.Range.{IsBetween}
use Rattle.emtp_case.specs.declared.run_data.RunData.{RunData}
use Rattle.emtp_fix.specs.declared.limit.TheConstants.{LARGEST_TOLERANCE}
use Rattle.std.specs.Prelude.{ℤ, ◌≤◌}

-- a time step in ps, from 1 ns to 1 s
abbrev pub IsTimeStep : ℤ → Type 0
IsTimeStep dt = IsBetween LEAST_TIME_STEP LARGEST_TIME_STEP dt

pub record IsRun (run : RunData) : Type 0 where
  pub dt : IsTimeStep run.dt
  pub some_steps : 1 ≤ run.steps
  pub few_steps : run.steps ≤ MOST_STEPS
  pub some_every : 1 ≤ run.every
  pub few_every : run.every ≤ MOST_STEPS
  pub tolerance : IsBetween 0 LARGEST_TOLERANCE run.tolerance
