-- The current that a line, or a phase, keeps of a step at its first end is in range.
use Rattle.std.proofs.Common.{ℕ, ℤ, Option, Some, None, IfSome}
use Rattle.emtp_case.specs.declared.branch.LineState.{LineState}
use Rattle.emtp_case.specs.declared.branch.PhaseState.{PhaseState}
use Rattle.emtp_fix.proofs.Ranges.{IsSmall, chain-all, chain-any, in_range-within}
use Rattle.emtp_fix.specs.Limit.{in_range, ◌>>=◌}
use Rattle.emtp_line.specs.Line.{line_state}
use Rattle.emtp_line.specs.Phases.{of_phase, phase_state, zero_wave_at}
use Rattle.emtp_line.specs.Wave.{current_of, end_of, wave_of}
use Rattle.emtp_line.specs.declared.mode.Mode.{Mode}
use Rattle.emtp_line.specs.declared.phase_end.PhaseEnd.{PhaseEnd}

end_small : (m : Mode) (history v : ℤ) → IfSome (end_of m history v) (λ e. IsSmall e.0)
unfolding end_of
end_small m history v =
    let Q : ℤ × ℤ → Type 0 = λ e. IsSmall e.0 in
    chain-all IsSmall Q (in_range (current_of m history v)) (λ i. in_range (wave_of m v i) >>= (λ w. Some (i, w))) (in_range-within (current_of m history v))
    (λ i small. chain-any Q (in_range (wave_of m v i)) (λ w. Some (i, w)) (λ w. small))

pub line_small : (m : Mode) (histories : ℤ × ℤ) (v w : ℤ) → IfSome (line_state m histories v w) (λ s. IsSmall s.from_current)
unfolding line_state
line_small m histories v w =
    let Q : LineState → Type 0 = λ s. IsSmall s.from_current in
    let P : ℤ × ℤ → Type 0 = λ e. IsSmall e.0 in
    chain-all P Q (end_of m histories.0 v) (λ a. end_of m histories.1 w >>= (λ b. Some (record { from_current = a.0; to_current = b.0; from_wave = a.1; to_wave = b.1 }))) (end_small m histories.0 v)
    (λ a small. chain-any Q (end_of m histories.1 w) (λ b. Some (record { from_current = a.0; to_current = b.0; from_wave = a.1; to_wave = b.1 })) (λ b. small))

-- five numbers more
five_small : (i : ℤ) (a b c d e : Option ℤ) → IsSmall i
    → IfSome (a >>= (λ k. b >>= (λ w. c >>= (λ u. d >>= (λ w0. e >>= (λ u0. Some (record { from_current = i; to_current = k; from_wave = w; to_wave = u; from_zero_wave = w0; to_zero_wave = u0 }))))))) (λ (s : PhaseState). IsSmall s.from_current)
five_small i None b c d e small = tt
five_small i (Some k) None c d e small = tt
five_small i (Some k) (Some w) None d e small = tt
five_small i (Some k) (Some w) (Some u) None e small = tt
five_small i (Some k) (Some w) (Some u) (Some w0) None small = tt
five_small i (Some k) (Some w) (Some u) (Some w0) (Some u0) small = small

pub phase_small : (a b : PhaseEnd) (p : ℕ) → IfSome (phase_state a b p) (λ s. IsSmall s.from_current)
unfolding phase_state
phase_small a b p = by (in_range (of_phase a.currents p)) (in_range-within (of_phase a.currents p))
  where
    by : (o : Option ℤ) → IfSome o IsSmall
        → IfSome (o >>= (λ i. in_range (of_phase b.currents p) >>= (λ k. in_range (of_phase a.waves p) >>= (λ w. in_range (of_phase b.waves p) >>= (λ u. in_range (zero_wave_at p a.zero_wave) >>= (λ w0. in_range (zero_wave_at p b.zero_wave) >>= (λ u0.
        Some (record { from_current = i; to_current = k; from_wave = w; to_wave = u; from_zero_wave = w0; to_zero_wave = u0 })))))))) (λ (s : PhaseState). IsSmall s.from_current)
    by None small = tt
    by (Some i) small = five_small i (in_range (of_phase b.currents p)) (in_range (of_phase a.waves p)) (in_range (of_phase b.waves p)) (in_range (zero_wave_at p a.zero_wave)) (in_range (zero_wave_at p b.zero_wave)) small
