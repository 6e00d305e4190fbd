-- How many samples a run has, and the time of a step.
use Rattle.emtp_case.specs.declared.run_data.RunData.{RunData}
use Rattle.std.specs.Prelude.{◌+◌, ◌/◌, ◌*ℤ◌, pos, ℕ, ℤ}

-- how many records are samples: record 0 and each every-th one after it
abbrev pub samples_of : RunData → ℕ
samples_of run = run.steps / run.every + 1

-- the time of a step
abbrev pub time_of : RunData → ℕ → ℤ
time_of run step = pos step *ℤ run.dt
