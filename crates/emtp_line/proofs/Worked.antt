-- The definitions at the worked rows of a line of 100 ohm and two steps, and of a three-phase line.
use Rattle.std.proofs.Common.{◌≡◌, ◌^◌, ◌*◌, ℕ, ℤ, pos, neg_ℤ, List, [], ◌∷◌, Some, None, Ok, Err, refl}
use Rattle.emtp_case.specs.StepRecord.{no_line, no_phase}
use Rattle.emtp_case.specs.declared.branch.LineState.{LineState}
use Rattle.emtp_case.specs.declared.branch.PhaseState.{PhaseState}
use Rattle.emtp_fix.specs.Rounding.{near, near_abs}
use Rattle.emtp_line.specs.Line.{line_histories, line_state, next_state}
use Rattle.emtp_line.specs.Mode.{mode_of}
use Rattle.emtp_line.specs.Phases.{Modes, own_conductance, mutual_conductance, phase_state}
use Rattle.emtp_line.specs.held.Phases.{next_phases}
use Rattle.emtp_line.specs.Wave.{end_of}
use Rattle.emtp_line.specs.declared.mode.Mode.{Mode}

line : Mode
line = mode_of (pos (10 ^ 8)) (pos (10 ^ 8)) (pos 0) (pos (2 * 10 ^ 8))

line_is : line ≡ record { conductance = pos (10 ^ 10); attenuation = pos (10 ^ 12); far_share = pos (10 ^ 12); near_share = pos 0; steps = 2; rest = pos 0; dt = pos (10 ^ 8) }
unfolding line near near_abs
line_is = refl

-- step 1: 50 V at `from` sends a wave of 1 A
sent : LineState
sent = record { from_current = pos (5 * 10 ^ 8); to_current = pos 0; from_wave = pos (10 ^ 9); to_wave = pos 0 }

first_step : next_state line (no_line ∷ []) (pos (50 * 10 ^ 9)) (pos 0) ≡ Some sent
unfolding line sent near near_abs end_of line_state
first_step = refl

-- step 3: it has arrived at `to`, and at no earlier step
arrived : line_histories line (no_line ∷ sent ∷ no_line ∷ []) ≡ (pos 0, neg_ℤ (pos (10 ^ 9)))
unfolding line sent near near_abs
arrived = refl

not_yet : line_histories line (sent ∷ no_line ∷ []) ≡ (pos 0, pos 0)
unfolding line sent near near_abs
not_yet = refl

too_late : line_histories line (no_line ∷ no_line ∷ sent ∷ no_line ∷ []) ≡ (pos 0, pos 0)
unfolding line sent near near_abs
too_late = refl

-- a travel time of two and a half steps: the mean of two records
half : Mode
half = mode_of (pos (10 ^ 8)) (pos (10 ^ 8)) (pos 0) (pos (25 * 10 ^ 7))

between_two : line_histories half (no_line ∷ sent ∷ no_line ∷ []) ≡ (pos 0, neg_ℤ (pos (5 * 10 ^ 8)))
unfolding half sent near near_abs
between_two = refl

-- a current of 10^18 nA is kept, and one more is not
greatest : next_state line [] (pos (10 ^ 20)) (pos 0) ≡ None
unfolding line near near_abs end_of line_state
greatest = refl

-- zero sequence 400 ohm, positive sequence 100 ohm
three : Modes
three = record { zero_sequence = mode_of (pos (10 ^ 8)) (pos (4 * 10 ^ 8)) (pos 0) (pos (2 * 10 ^ 8)); positive = line }

own_is : own_conductance three ≡ pos 7500000000
unfolding three line near near_abs
own_is = refl

coupling_is : mutual_conductance three ≡ neg_ℤ (pos 2500000000)
unfolding three line near near_abs
coupling_is = refl

abbrev nothing : ℕ → List PhaseState
nothing p = []

abbrev silent : List ℤ
silent = pos 0 ∷ pos 0 ∷ pos 0 ∷ []

-- a phase that sends this current and these waves from its near end
abbrev sends : ℤ → ℤ → ℤ → PhaseState
sends i w w0 = record { from_current = i; to_current = pos 0; from_wave = w; to_wave = pos 0; from_zero_wave = w0; to_zero_wave = pos 0 }

-- 50 V and -50 V at two phases: the positive sequence alone, as on a single line
opposite_is : next_phases three nothing (pos (50 * 10 ^ 9) ∷ neg_ℤ (pos (50 * 10 ^ 9)) ∷ pos 0 ∷ []) silent
    ≡ Ok (sends (pos (5 * 10 ^ 8)) (pos (10 ^ 9)) (pos 0) ∷ sends (neg_ℤ (pos (5 * 10 ^ 8))) (neg_ℤ (pos (10 ^ 9))) (pos 0) ∷ no_phase ∷ [])
unfolding phase_state three line near near_abs
opposite_is = refl

-- 80 V at all three: the zero sequence alone
alike_is : next_phases three nothing (pos (80 * 10 ^ 9) ∷ pos (80 * 10 ^ 9) ∷ pos (80 * 10 ^ 9) ∷ []) silent
    ≡ Ok (sends (pos (2 * 10 ^ 8)) (pos 0) (pos (4 * 10 ^ 8)) ∷ sends (pos (2 * 10 ^ 8)) (pos 0) (pos 0) ∷ sends (pos (2 * 10 ^ 8)) (pos 0) (pos 0) ∷ [])
unfolding phase_state three line near near_abs
alike_is = refl

-- a voltage at the third phase that takes its current out of range, and that of no other
third_out : next_phases (record { zero_sequence = line; positive = line }) nothing (pos 0 ∷ pos 0 ∷ pos (11 * 10 ^ 19) ∷ []) silent ≡ Err (record { phase = 2 })
unfolding phase_state line near near_abs
third_out = refl
