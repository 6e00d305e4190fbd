-- Currents by differences of voltages, and lines of scans.
use Rattle.std.proofs.Common.{◌≡◌, ◌∙◌, ap, ℕ, ◌<◌, ◌∷◌, ℤ, neg_ℤ, ◌+ℤ◌, ◌-ℤ◌, ◌*ℤ◌, true, false, map, slice_get, Some, refl, arith}
use Rattle.std.specs.List.{range_with_len}
use Rattle.std.proofs.Math.IntN.{neg_ℤ-neg_ℤ}
use Rattle.std.proofs.lemmas.Int.{ints}
use Rattle.std.proofs.lemmas.List.FromFn.{get_or-map-range_with_len, length-map-range_with_len}
use Rattle.std.proofs.lemmas.Option.{slice_get-get_or}
use Rattle.emtp_fix.specs.Rounding.{near}
use Rattle.emtp_fix.specs.declared.limit.TheConstants.{PICO}
use Rattle.emtp_admittance.proofs.Products.{neg_times, times_difference}
use Rattle.emtp_admittance.specs.Impedance.{across_ends}
use Rattle.emtp_admittance.specs.declared.admittance.Admittance.{Admittance}
use Rattle.emtp_admittance.specs.declared.probe.Probe.{Probe}
use Rattle.emtp_case.specs.declared.case.Parts.{Parts}
use Rattle.emtp_phasor.specs.Scanning.{frequency_at, frequency_count, impedance_seen, line_at, scan_lines}
use Rattle.emtp_phasor.specs.held.Solving.{IsSolved}
use Rattle.emtp_phasor.specs.Steady.{entering}
use Rattle.emtp_phasor.specs.Volts.{nothing, volt_at}
use Rattle.emtp_phasor.specs.declared.line.ScanLine.{ScanLine}
use Rattle.emtp_phasor.specs.declared.phasor.Phasor.{Phasor}
use Rattle.emtp_phasor.specs.declared.steady_state.Phasors.{Phasors}

-- ---- currents

real_part : (g b a c p q : ℤ) → (g *ℤ a +ℤ neg_ℤ b *ℤ c) +ℤ (neg_ℤ g *ℤ p +ℤ neg_ℤ (neg_ℤ b) *ℤ q) ≡ g *ℤ (a -ℤ p) -ℤ b *ℤ (c -ℤ q)
real_part g b a c p q = omega (arith, ints, times_difference g a p, times_difference b c q, neg_times b c, neg_times g p, ap (λ z. z *ℤ q) (neg_ℤ-neg_ℤ b))

imaginary_part : (g b a c p q : ℤ) → (b *ℤ a +ℤ g *ℤ c) +ℤ (neg_ℤ b *ℤ p +ℤ neg_ℤ g *ℤ q) ≡ b *ℤ (a -ℤ p) +ℤ g *ℤ (c -ℤ q)
imaginary_part g b a c p q = omega (arith, ints, times_difference b a p, times_difference g c q, neg_times b p, neg_times g q)

pub real_current : (y : Admittance) (v u : Phasor) → entering false (across_ends y) v u ≡ near (y.conductance *ℤ (v.re -ℤ u.re) -ℤ y.susceptance *ℤ (v.im -ℤ u.im)) PICO
real_current y v u = ap (λ x. near x PICO) (real_part y.conductance y.susceptance v.re v.im u.re u.im)

pub imaginary_current : (y : Admittance) (v u : Phasor) → entering true (across_ends y) v u ≡ near (y.susceptance *ℤ (v.re -ℤ u.re) +ℤ y.conductance *ℤ (v.im -ℤ u.im)) PICO
imaginary_current y v u = ap (λ x. near x PICO) (imaginary_part y.conductance y.susceptance v.re v.im u.re u.im)

-- ---- lines

pub line_alone : (case : Parts) (probe : Probe) (first last by : ℤ) (k : ℕ) → k < frequency_count first last by → slice_get (scan_lines case probe first last by) k ≡ Some (line_at case probe (frequency_at first by k))
line_alone case probe first last by k below =
    let F : ℕ → ScanLine = λ k. line_at case probe (frequency_at first by k) in
    let size = length-map-range_with_len F 0 (frequency_count first last by) in
    slice_get-get_or (map F (range_with_len 0 (frequency_count first last by))) k (F k) (omega (arith, below, size))
    ∙ ap Some (get_or-map-range_with_len F 0 (frequency_count first last by) k k (F k) below (omega arith))

pub line_solved : (case : Parts) (probe : Probe) (freq : ℤ) (p : Phasors) → IsSolved case (Some freq) p → (line_at case probe freq).answer ≡ impedance_seen case probe (volt_at (nothing ∷ p.volts.items) probe.node)
line_solved case probe freq p solved =
    let good = solved.good in
    let steady = solved.steady.0 in
    rw (good, steady) refl
