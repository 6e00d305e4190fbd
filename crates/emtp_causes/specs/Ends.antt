-- What an early end means, and why a case has no steady state.
use Rattle.std.specs.Prelude.{[], ◌++◌, ◌==◌, List, codes, if◌then◌else◌, length, ℕ}
use Rattle.std.specs.Str.{bytes_eq}
use Rattle.emtp_causes.specs.declared.texts.TheConstants.{AT, IN, LOOP, LOOP_AROUND, LOOP_CURE, NEAR, NOTHING_TIES, PIVOT, PIVOT_CURE, RANGE, RANGE_CURE, RESIDUAL, RESIDUAL_CURE, RESIDUAL_NODE, STEADY_CONTROL, STEADY_IMPEDANCE, STEADY_LOSS, STEADY_NONLINEAR, STEADY_NO_SOURCE, STEADY_PHASES, STEADY_PIVOT_CURE, STEADY_PROBE, STEADY_RANGE_CURE, STEADY_SIZE, STEADY_SOURCE, STEADY_SWITCH, STEP, TACS_RANGE_CURE, THE_STEADY_STATE, TIED, TIED_CURE}

abbrev pub step_text : List ℕ → List ℕ
step_text step = if length step == 0 then THE_STEADY_STATE.now else STEP.now ++ step

unfoldable pub tied_text : List ℕ → List ℕ → List ℕ
tied_text step name =
    IN.now ++ step_text step
    ++ TIED.now ++ name
    ++ TIED_CURE.now

unfoldable pub steady_pivot_text : List ℕ → List ℕ
steady_pivot_text name =
    AT.now ++ name ++ STEADY_PIVOT_CURE.now

unfoldable pub step_pivot_text : List ℕ → List ℕ → List ℕ
step_pivot_text step name =
    NOTHING_TIES.now ++ name ++ PIVOT.now
    ++ step_text step ++ PIVOT_CURE.now

abbrev pub pivot_text : List ℕ → List ℕ → List ℕ
pivot_text step name = if length step == 0 then steady_pivot_text name else step_pivot_text step name

unfoldable pub steady_range_text : List ℕ → List ℕ
steady_range_text name =
    NEAR.now ++ name ++ STEADY_RANGE_CURE.now

unfoldable pub step_range_text : List ℕ → List ℕ → List ℕ
step_range_text step name =
    NEAR.now ++ name ++ RANGE.now ++ step_text step
    ++ RANGE_CURE.now

abbrev pub range_text : List ℕ → List ℕ → List ℕ
range_text step name = if length step == 0 then steady_range_text name else step_range_text step name

-- the note names the node and what is left there
unfoldable pub residual_text : List ℕ → List ℕ → List ℕ
residual_text step name =
    RESIDUAL.now ++ step_text step
    ++ RESIDUAL_NODE.now ++ name
    ++ RESIDUAL_CURE.now

unfoldable pub tacs_pivot_text : List ℕ → List ℕ → List ℕ
tacs_pivot_text step name =
    LOOP_AROUND.now ++ name ++ LOOP.now ++ step_text step
    ++ LOOP_CURE.now

unfoldable pub tacs_range_text : List ℕ → List ℕ → List ℕ
tacs_range_text step name =
    IN.now ++ step_text step ++ codes " " ++ name
    ++ TACS_RANGE_CURE.now

abbrev pub tacs_text : List ℕ → List ℕ → List ℕ → List ℕ
tacs_text cause step name =
    if bytes_eq cause (codes "TACSPIVOT") then tacs_pivot_text step name
    else if bytes_eq cause (codes "TACSRANGE") then tacs_range_text step name
    else []

-- by the word of the cause, the number of the step (nothing of a steady state) and what the note names
abbrev pub end_text : List ℕ → List ℕ → List ℕ → List ℕ
end_text cause step name =
    if bytes_eq cause (codes "TIED") then tied_text step name
    else if bytes_eq cause (codes "ZEROPIVOT") then pivot_text step name
    else if bytes_eq cause (codes "RANGE") then range_text step name
    else if bytes_eq cause (codes "RESIDUAL") then residual_text step name
    else tacs_text cause step name

-- by the word of the reason
abbrev pub unsolved_text : List ℕ → List ℕ
unsolved_text reason =
    if bytes_eq reason (codes "Size") then STEADY_SIZE.now
    else if bytes_eq reason (codes "NoSource") then STEADY_NO_SOURCE.now
    else if bytes_eq reason (codes "Probe")
    then STEADY_PROBE.now
    else if bytes_eq reason (codes "Control") then STEADY_CONTROL.now
    else if bytes_eq reason (codes "Switch") then STEADY_SWITCH.now
    else if bytes_eq reason (codes "Nonlinear") then STEADY_NONLINEAR.now
    else if bytes_eq reason (codes "Loss") then STEADY_LOSS.now
    else if bytes_eq reason (codes "Phases") then STEADY_PHASES.now
    else if bytes_eq reason (codes "Impedance") then STEADY_IMPEDANCE.now
    else if bytes_eq reason (codes "Source") then STEADY_SOURCE.now
    else []
