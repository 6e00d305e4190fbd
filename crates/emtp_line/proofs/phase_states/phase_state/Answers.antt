use Rattle.std.proofs.Common.{◌≡◌, ◌∙◌, ap, refl, ℕ, Some, FitsSigned, rules, arith}
use mir.Syntax.{w64, w128}
use Rattle.std.proofs.lemmas.Int.{ints, to_z-of_z}
use Rattle.emtp_case.specs.declared.branch.PhaseState.{PhaseState}
use Rattle.emtp_fix.specs.Limit.{in_range}
use Rattle.emtp_line.specs.Phases.{of_phase, phase_state, zero_wave_at}
use Rattle.emtp_line.specs.declared.phase_end.PhaseEnd.{PhaseEnd}
use Rattle.emtp_line.proofs.phase_states.phase_state.Goals as goal

kept : (from to : PhaseEnd) (p : ℕ) (s : PhaseState) → Some s.from_current ≡ in_range (of_phase from.currents p) → Some s.to_current ≡ in_range (of_phase to.currents p) → Some s.from_wave ≡ in_range (of_phase from.waves p)
    → Some s.to_wave ≡ in_range (of_phase to.waves p) → Some s.from_zero_wave ≡ in_range (zero_wave_at p from.zero_wave) → Some s.to_zero_wave ≡ in_range (zero_wave_at p to.zero_wave) → Some s ≡ phase_state from to p
unfolding phase_state
kept from to p s i k w u w0 u0 = rw (← i, ← k, ← w, ← u, ← w0, ← u0) refl

pub returns-clause-value : goal.returns-clause-value
returns-clause-value c =
    let from = c.args.from.now in
    let to = c.args.to.now in
    let p = c.args.phase in
    let i : FitsSigned w128 (of_phase from.currents p) = search rules in
    let k : FitsSigned w128 (of_phase to.currents p) = search rules in
    let w : FitsSigned w128 (of_phase from.waves p) = search rules in
    let u : FitsSigned w128 (of_phase to.waves p) = search rules in
    let w0 : FitsSigned w128 from.zero_wave = search rules in
    let u0 : FitsSigned w128 to.zero_wave = search rules in
    let w0' : FitsSigned w128 c.zero_wave_at.result = search rules in
    let u0' : FitsSigned w128 c.zero_wave_at-2.result = search rules in
    let i' : FitsSigned w64 c.in_ok-from_current.from_current = search rules in
    let k' : FitsSigned w64 c.in_ok-to_current.to_current = search rules in
    let w' : FitsSigned w64 c.in_ok-from_wave.from_wave = search rules in
    let u' : FitsSigned w64 c.in_ok-to_wave.to_wave = search rules in
    let w0'' : FitsSigned w64 c.in_ok-from_zero_wave.from_zero_wave = search rules in
    let u0'' : FitsSigned w64 c.in_ok-to_zero_wave.to_zero_wave = search rules in
    let from_zero = simp to_z-of_z at c.zero_wave_at.ensures in
    let to_zero = simp to_z-of_z at c.zero_wave_at-2.ensures in
    let from_current = simp to_z-of_z at c.in_ok-from_current.ensures.value in
    let to_current = simp to_z-of_z at c.in_ok-to_current.ensures.value in
    let from_wave = simp to_z-of_z at c.in_ok-from_wave.ensures.value in
    let to_wave = simp to_z-of_z at c.in_ok-to_wave.ensures.value in
    let from_zero_wave = simp to_z-of_z at c.in_ok-from_zero_wave.ensures.value in
    let to_zero_wave = simp to_z-of_z at c.in_ok-to_zero_wave.ensures.value in
    simp to_z-of_z (kept from to p _ from_current to_current from_wave to_wave (from_zero_wave ∙ ap in_range from_zero) (to_zero_wave ∙ ap in_range to_zero))

pub returns-in_err-from_current-clause-small : goal.returns-in_err-from_current-clause-small
returns-in_err-from_current-clause-small c = rw c.from_residual.ensures tt

pub returns-in_err-to_current-clause-small : goal.returns-in_err-to_current-clause-small
returns-in_err-to_current-clause-small c = rw c.from_residual-in_err-to_current.ensures tt

pub returns-in_err-from_wave-clause-small : goal.returns-in_err-from_wave-clause-small
returns-in_err-from_wave-clause-small c = rw c.from_residual-in_err-from_wave.ensures tt

pub returns-in_err-to_wave-clause-small : goal.returns-in_err-to_wave-clause-small
returns-in_err-to_wave-clause-small c = rw c.from_residual-in_err-to_wave.ensures tt

pub returns-in_err-from_zero_wave-clause-small : goal.returns-in_err-from_zero_wave-clause-small
returns-in_err-from_zero_wave-clause-small c = rw c.from_residual-in_err-from_zero_wave.ensures tt

pub returns-in_err-to_zero_wave-clause-small : goal.returns-in_err-to_zero_wave-clause-small
returns-in_err-to_zero_wave-clause-small c = rw c.from_residual-in_err-to_zero_wave.ensures tt

pub returns-clause-small : goal.returns-clause-small
returns-clause-small c = record { from_current = omega (arith, ints, c.in_ok-from_current.ensures.bound); to_current = omega (arith, ints, c.in_ok-to_current.ensures.bound) }

pub returns-in_err-from_current-clause-value : goal.returns-in_err-from_current-clause-value
unfolding phase_state
returns-in_err-from_current-clause-value c = search rules

pub returns-in_err-to_current-clause-value : goal.returns-in_err-to_current-clause-value
unfolding phase_state
returns-in_err-to_current-clause-value c = search rules

pub returns-in_err-from_wave-clause-value : goal.returns-in_err-from_wave-clause-value
unfolding phase_state
returns-in_err-from_wave-clause-value c = search rules

pub returns-in_err-to_wave-clause-value : goal.returns-in_err-to_wave-clause-value
unfolding phase_state
returns-in_err-to_wave-clause-value c = search rules

pub returns-in_err-from_zero_wave-clause-value : goal.returns-in_err-from_zero_wave-clause-value
unfolding phase_state
returns-in_err-from_zero_wave-clause-value c = search rules

pub returns-in_err-to_zero_wave-clause-value : goal.returns-in_err-to_zero_wave-clause-value
unfolding phase_state
returns-in_err-to_zero_wave-clause-value c = search rules
