-- Formulas that the laws refuse, by numbers: each beside the one that they take.
use Rattle.std.proofs.Common.{◌≡◌, ◌+◌, ◌*◌, ◌^◌, ◌≤◌, refl, sym, inl, inr, ℤ, pos, neg_ℤ, ◌+ℤ◌, ◌-ℤ◌, ◌*ℤ◌, unsigned_abs, true, false, List, [], ◌∷◌, Some, None, arith}
use Rattle.std.proofs.lemmas.Bool.{true≢false}
use Rattle.std.proofs.lemmas.Int.{ints}
use Rattle.emtp_case.specs.Branch.{origin}
use Rattle.emtp_case.specs.declared.branch.Line.{Line}
use Rattle.emtp_case.specs.declared.branch.LumpedState.{LumpedState}
use Rattle.emtp_case.specs.declared.branch.PseudoState.{PseudoState}
use Rattle.emtp_case.specs.declared.source.Shape.TheVariants.{Step}
use Rattle.emtp_case.specs.declared.source.Source.{Source}
use Rattle.emtp_case.specs.declared.switch.SwitchState.TheVariants.{Closed, Opened}
use Rattle.emtp_fix.specs.Rounding.{near, near_abs}
use Rattle.emtp_fix.specs.declared.limit.TheConstants.{MICRO, PICO}
use Rattle.emtp_laws.specs.Switches.{GoesByItsNumbers}
use Rattle.emtp_laws_of_units.specs.Characteristic.{LiesOnLine}
use Rattle.emtp_laws_of_units.specs.Losses.{ReceivesWaves, SendsWave}
use Rattle.emtp_laws_of_units.specs.Reactor.{LiesOnSegment, LinksFlux}
use Rattle.emtp_laws_of_units.specs.Series.{ChargesCapacitance, DrivesInductance}
use Rattle.emtp_laws_of_units.specs.Stops.{ActsWithin}
use Rattle.emtp_laws_of_units.specs.ThreePhases.{MeetsBoth, excess_current, together}
use Rattle.emtp_laws_of_units.specs.Travel.{LiesBetween}
use Rattle.emtp_pseudo.specs.Step.{moment_at_rest}
use Rattle.emtp_pseudo.specs.declared.segment.Segment.{Segment}
use Rattle.emtp_wave.specs.Wave.{ramp}

-- ---- an inductance: 1 nH at 1 ns, and a rise of 1 mA

state : ℤ → ℤ → ℤ → LumpedState
state i vl vc = record { current = i; v_l = vl; v_c = vc; history_voltage = pos 0 }

-- with an impedance of 2 L/dt, 2 ohm, vL is 2 mV
two_over_dt : DrivesInductance (pos 1000) (pos 1) (state (pos 0) (pos 0) (pos 0)) (state (pos (10 ^ 6)) (near (near (pos (2 * 10 ^ 9) *ℤ pos 1) (pos 1000) *ℤ pos (10 ^ 6)) MICRO) (pos 0))
unfolding near near_abs state
two_over_dt = omega arith

-- with L/dt it would be 1 mV
one_over_dt : DrivesInductance (pos 1000) (pos 1) (state (pos 0) (pos 0) (pos 0)) (state (pos (10 ^ 6)) (near (near (pos (10 ^ 9) *ℤ pos 1) (pos 1000) *ℤ pos (10 ^ 6)) MICRO) (pos 0)) → ⊥
unfolding near near_abs state
one_over_dt h = omega (arith, h)

-- ---- a capacitance: 1 pF at 1 ns, and a current of 1 uA that begins

-- with an impedance of dt/(2 C), 500 ohm, vC is 0.5 mV
half_dt : ChargesCapacitance (pos 1000) (pos 1000) (state (pos 0) (pos 0) (pos 0)) (state (pos 1000) (pos 0) (near (near (pos 1000 *ℤ pos (10 ^ 9)) (pos 2000) *ℤ pos 1000) MICRO))
unfolding near near_abs state
half_dt = omega arith

-- with dt/C it would be 1 mV
whole_dt : ChargesCapacitance (pos 1000) (pos 1000) (state (pos 0) (pos 0) (pos 0)) (state (pos 1000) (pos 0) (near (near (pos 1000 *ℤ pos (10 ^ 9)) (pos 1000) *ℤ pos 1000) MICRO)) → ⊥
unfolding near near_abs state
whole_dt h = omega (arith, h)

-- ---- a reactor: 1 V that begins, for 1 ns, on a segment of 1 uA over 1 nWb

reactor_state : ℤ → ℤ → PseudoState
reactor_state i flux = record { current = i; segment = pos 0; flux = flux }

segment : Segment
segment = record { conductance = pos 0; base = origin; rise = record { current = pos 1000; other = pos 1000 }; upper = None; lower = None }

-- the mean voltage over 1 ns, 500 pWb
mean_voltage : LinksFlux (pos 1000) moment_at_rest (pos (10 ^ 9)) (reactor_state (pos 0) (near (pos 1000 *ℤ pos (10 ^ 9)) (pos (2 * 10 ^ 9))))
unfolding near near_abs reactor_state
mean_voltage = omega arith

-- and not the last one
last_voltage : LinksFlux (pos 1000) moment_at_rest (pos (10 ^ 9)) (reactor_state (pos 0) (near (pos 1000 *ℤ pos (10 ^ 9)) (pos (10 ^ 9)))) → ⊥
unfolding near near_abs reactor_state
last_voltage h = omega (arith, h)

-- with a conductance of dt di/(2 dy) the current is that of the line at 500 pWb
half_slope : LiesOnSegment segment moment_at_rest (pos (10 ^ 9)) (reactor_state (near (near (pos 1000 *ℤ pos 1000 *ℤ pos 1000) (pos 2000) *ℤ pos (10 ^ 9)) PICO) (pos 500))
unfolding near near_abs reactor_state segment
half_slope = omega arith

-- with dt di/dy it isn't
whole_slope : LiesOnSegment segment moment_at_rest (pos (10 ^ 9)) (reactor_state (near (near (pos 1000 *ℤ pos 1000 *ℤ pos 1000) (pos 1000) *ℤ pos (10 ^ 9)) PICO) (pos 500)) → ⊥
unfolding near near_abs reactor_state segment
whole_slope h = omega (arith, h)

-- ---- a line, of whose travel time a quarter of a step is the rest: 1 mA left in the newer step, nothing in the older one

-- three quarters of it come
by_the_rest : LiesBetween (pos 1000) (pos 250) (pos (10 ^ 6) +ℤ near (pos 250 *ℤ (pos 0 -ℤ pos (10 ^ 6))) (pos 1000)) (pos (10 ^ 6)) (pos 0)
unfolding near near_abs
by_the_rest = omega arith

-- and not a quarter
by_what_it_lacks : LiesBetween (pos 1000) (pos 250) (pos (10 ^ 6) +ℤ near (pos 750 *ℤ (pos 0 -ℤ pos (10 ^ 6))) (pos 1000)) (pos (10 ^ 6)) (pos 0) → ⊥
unfolding near near_abs
by_what_it_lacks h = omega (arith, h)

-- ---- a ramp to 1 mV in 5 ns, 1 ns after it began at 3 ns, and at 10 ns

-- from its start
since_its_start : ramp (pos (10 ^ 6)) (pos 5000) (pos 11000 -ℤ pos 10000) ≡ ramp (pos (10 ^ 6)) (pos 5000) (pos 4000 -ℤ pos 3000)
since_its_start = refl

-- and not from time 0
since_time_0 : ramp (pos (10 ^ 6)) (pos 5000) (pos 11000) ≡ ramp (pos (10 ^ 6)) (pos 5000) (pos 4000) → ⊥
unfolding near near_abs
since_time_0 same = omega (arith, ints, same)

-- ---- a pseudo-nonlinear resistor: 1 ohm from the origin on, and 2 V

resistor_segment : Segment
resistor_segment = record { conductance = pos (10 ^ 12); base = origin; rise = record { current = pos (10 ^ 9); other = pos (10 ^ 9) }; upper = None; lower = None }

-- 2 A
whole_current : LiesOnLine resistor_segment (pos (2 * 10 ^ 9)) (reactor_state (pos (2 * 10 ^ 9)) (pos 0))
unfolding reactor_state resistor_segment
whole_current = omega arith

-- and not 1 A
half_current : LiesOnLine resistor_segment (pos (2 * 10 ^ 9)) (reactor_state (pos (10 ^ 9)) (pos 0)) → ⊥
unfolding reactor_state resistor_segment
half_current h = omega (arith, h)

-- ---- a line of 300 ohm with 40 ohm, 10 of them at an end: 1 A that left the other end, nothing that left this one, and no voltage

lossy : Line
lossy = record { line = 1; «from» = 1; to = 2; zc = pos (300 * 10 ^ 6); r = pos (40 * 10 ^ 6); delay = pos (10 ^ 9) }

-- 300/310 of it come
by_a_quarter : ReceivesWaves lossy (pos 0) (neg_ℤ (pos 967741935)) (pos (10 ^ 9)) (pos 0)
unfolding near near_abs lossy
by_a_quarter = omega arith

-- and not 300/320, as with half of the resistance at the end, nor all of it
by_a_half : ReceivesWaves lossy (pos 0) (neg_ℤ (pos 937500000)) (pos (10 ^ 9)) (pos 0) → ⊥
unfolding near near_abs lossy
by_a_half h = omega (arith, h)

without_loss : ReceivesWaves lossy (pos 0) (neg_ℤ (pos (10 ^ 9))) (pos (10 ^ 9)) (pos 0) → ⊥
unfolding near near_abs lossy
without_loss h = omega (arith, h)

-- of a current of 1 A, 290/310 leave, and not 310/310
sends_less : SendsWave lossy (pos 0) (pos (10 ^ 9)) (pos 935483871)
unfolding near near_abs lossy
sends_less = omega arith

sends_all : SendsWave lossy (pos 0) (pos (10 ^ 9)) (pos (10 ^ 9)) → ⊥
unfolding near near_abs lossy
sends_all h = omega (arith, h)

-- ---- an end of a three-phase line of 500 ohm in the zero sequence and 250 ohm in the positive one: 1 V at each phase

alike : ℤ → List ℤ
alike x = x ∷ x ∷ x ∷ []

-- 2 mA in each, 6 in all
by_zero_sequence : 2 * unsigned_abs (excess_current (pos (2 * 10 ^ 9)) (together (alike (pos (10 ^ 9)))) (together (alike (pos 0))) (together (alike (pos (2 * 10 ^ 6))))) ≤ 2 * unsigned_abs (together (alike (pos (10 ^ 9)))) + 3 * 10 ^ 12
unfolding alike
by_zero_sequence = omega arith

-- and not 4 mA
by_positive_sequence : MeetsBoth (pos (2 * 10 ^ 9)) (pos (4 * 10 ^ 9)) (alike (pos (10 ^ 9))) (alike (pos 0)) (alike (pos (4 * 10 ^ 6))) → ⊥
unfolding alike
by_positive_sequence h = omega (arith, h.all)

-- ---- a step of 3 V from 1 ns to 2 ns

stopping : Source
stopping = record { line = 1; node = 1; current = false; shape = Step; amplitude = pos (3 * 10 ^ 9); start = pos 1000; stop = Some (pos 2000) }

-- at 2 ns it still acts
stops_too_soon : ActsWithin stopping (pos 2000) (pos 0) → ⊥
unfolding stopping
stops_too_soon h = omega (arith, ints, h.inside refl (record { begun = omega (arith, ints); going = omega (arith, ints) }))

-- a picosecond later, and a picosecond before 1 ns, it doesn't
stops_too_late : ActsWithin stopping (pos 2001) (pos (3 * 10 ^ 9)) → ⊥
unfolding stopping
stops_too_late h = omega (arith, ints, h.outside (inr (omega (arith, ints))))

starts_too_soon : ActsWithin stopping (pos 999) (pos (3 * 10 ^ 9)) → ⊥
unfolding stopping
starts_too_soon h = omega (arith, ints, h.outside (inl (omega (arith, ints))))

-- ---- a valve of 10 V and 2 A

opened : Opened ≡ Closed → ⊥
opened e = cc

-- at 10 V it fires, at 2 A it goes on, and without its variable it doesn't fire
waits_at_ignition : GoesByItsNumbers (pos (10 ^ 10)) (pos (2 * 10 ^ 9)) (pos (10 ^ 10)) (pos 0) true Opened Opened → ⊥
waits_at_ignition h = opened ((h.fires refl).1 (omega (arith, ints), omega (arith, ints), refl))

opens_at_holding : GoesByItsNumbers (pos (10 ^ 10)) (pos (2 * 10 ^ 9)) (pos 0) (pos (2 * 10 ^ 9)) true Closed Opened → ⊥
opens_at_holding h = opened ((h.holds refl).1 (omega (arith, ints)))

fires_without_its_variable : GoesByItsNumbers (pos (10 ^ 10)) (pos (2 * 10 ^ 9)) (pos (10 ^ 11)) (pos 0) false Opened Closed → ⊥
fires_without_its_variable h = true≢false (sym ((h.fires refl).0 refl).2)

-- ---- a table: half a right angle

-- by a straight line from 1 to 0, which begins and ends as the cosine does, cosine and sine were both 0.5
straight_line : unsigned_abs ((pos (5 * 10 ^ 11) *ℤ pos (5 * 10 ^ 11) +ℤ pos (5 * 10 ^ 11) *ℤ pos (5 * 10 ^ 11)) -ℤ pos (10 ^ 24)) ≤ 6 * 10 ^ 12 → ⊥
straight_line h = omega (arith, h)
