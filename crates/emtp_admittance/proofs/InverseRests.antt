-- The admittance of a series branch times its impedance: what the two rounded quotients leave.
use Rattle.std.proofs.Common.{◌≡◌, ◌≢◌, ◌∙◌, ap, ℕ, ◌*◌, ◌≤◌, ℤ, pos, neg_ℤ, ◌+ℤ◌, ◌-ℤ◌, ◌*ℤ◌, ◌||◌, nat_lt, unsigned_abs, Bool, true, false, if◌then◌else◌, Some, None, IfSome, refl, arith}
use Rattle.std.proofs.Math.IntN.{*ℤ_comm}
use Rattle.std.proofs.lemmas.Int.{ints}
use Rattle.emtp_fix.proofs.Nearest.{near-rest}
use Rattle.emtp_fix.proofs.Wide.{mul_add}
use Rattle.emtp_fix.specs.Rounding.{near}
use Rattle.emtp_fix.specs.declared.limit.TheConstants.{ATTO}
use Rattle.emtp_case.specs.declared.branch.Lumped.{Lumped}
use Rattle.emtp_admittance.proofs.Products.{difference_times, last_exchanged, mean_of_two, neg_times, product_of_three, sum_times, times_difference}
use Rattle.emtp_admittance.proofs.ResistanceAlone.{unless_none}
use Rattle.emtp_admittance.specs.Impedance.{across_ends, across_impedance, capacitive_reactance, inductive_reactance, inverse, is_too_large, series_port, squared}
use Rattle.emtp_admittance.specs.Inverses.{IsInverse, IsInverseAcross}

-- the rest of a quotient g of x a by s, times y
rest_times : (x y g s a : ℤ) → (x *ℤ a -ℤ g *ℤ s) *ℤ y ≡ x *ℤ y *ℤ a -ℤ s *ℤ (g *ℤ y)
rest_times x y g s a =
    let turned : g *ℤ s *ℤ y ≡ s *ℤ (g *ℤ y) = ap (λ z. z *ℤ y) (*ℤ_comm g s) ∙ product_of_three s g y in
    omega (arith, ints, difference_times (x *ℤ a) (g *ℤ s) y, last_exchanged x a y, turned)

-- s times the real part less a, and s times the imaginary part
real_rest : (r x g h a : ℤ) → squared r x *ℤ ((g *ℤ r +ℤ h *ℤ x) -ℤ a) ≡ neg_ℤ ((r *ℤ a -ℤ g *ℤ squared r x) *ℤ r +ℤ (x *ℤ a -ℤ h *ℤ squared r x) *ℤ x)
real_rest r x g h a =
    let s = squared r x in
    omega (
      arith,
      ints,
      times_difference s (g *ℤ r +ℤ h *ℤ x) a,
      mul_add s (g *ℤ r) (h *ℤ x),
      sum_times (r *ℤ r) (x *ℤ x) a,
      rest_times r r g s a,
      rest_times x x h s a,
    )

imaginary_rest : (r x g h a : ℤ) → squared r x *ℤ (g *ℤ x -ℤ h *ℤ r) ≡ (x *ℤ a -ℤ h *ℤ squared r x) *ℤ r -ℤ (r *ℤ a -ℤ g *ℤ squared r x) *ℤ x
imaginary_rest r x g h a =
    let s = squared r x in
    omega (arith, ints, times_difference s (g *ℤ x) (h *ℤ r), rest_times r x g s a, rest_times x r h s a, ap (λ z. z *ℤ a) (*ℤ_comm r x))

is_inverse : (r x : ℤ) → squared r x ≢ pos 0 → IsInverse r x (inverse r x)
is_inverse r x some =
    let s = squared r x in
    let g = near (r *ℤ ATTO) s in
    let h = near (x *ℤ ATTO) s in
    let p = r *ℤ ATTO -ℤ g *ℤ s in
    let q = x *ℤ ATTO -ℤ h *ℤ s in
    let in_p : 2 * unsigned_abs p ≤ unsigned_abs s = near-rest (r *ℤ ATTO) s some in
    let in_q : 2 * unsigned_abs q ≤ unsigned_abs s = near-rest (x *ℤ ATTO) s some in
    let real : (g *ℤ r -ℤ neg_ℤ h *ℤ x) -ℤ ATTO ≡ (g *ℤ r +ℤ h *ℤ x) -ℤ ATTO = omega (arith, ints, neg_times h x) in
    let imaginary : g *ℤ x +ℤ neg_ℤ h *ℤ r ≡ g *ℤ x -ℤ h *ℤ r = omega (arith, ints, neg_times h r) in
    record {
      real = rw real (mean_of_two s ((g *ℤ r +ℤ h *ℤ x) -ℤ ATTO) p q r x some in_p in_q (omega (arith, ints, real_rest r x g h ATTO)));
      imaginary = rw imaginary (mean_of_two s (g *ℤ x -ℤ h *ℤ r) q p r x some in_q in_p (omega (arith, ints, imaginary_rest r x g h ATTO)));
    }

across_inverse : (r x : ℤ) (b : Bool) → nat_lt (unsigned_abs (squared r x)) 100 ≡ b → IfSome (if b then None else Some (across_ends (inverse r x))) (IsInverseAcross r x)
across_inverse r x true is = tt
across_inverse r x false is = record { across = refl; inverse = is_inverse r x (λ none. small (unsigned_abs (squared r x)) is (ap unsigned_abs none)) }
  where
    small : (n : ℕ) → nat_lt n 100 ≡ false → n ≡ 0 → ⊥
    small n is none = absurd (grind arith)

pub series_inverse : (w : ℤ) (b : Lumped) → IfSome (series_port w b) (IsInverseAcross b.r (inductive_reactance w b.l -ℤ capacitive_reactance w b.c))
unfolding series_port
series_inverse w b =
    let x = inductive_reactance w b.l -ℤ capacitive_reactance w b.c in
    unless_none (is_too_large (inductive_reactance w b.l) || is_too_large (capacitive_reactance w b.c)) (across_impedance b.r x) (IsInverseAcross b.r x)
    (across_inverse b.r x (nat_lt (unsigned_abs (squared b.r x)) 100) refl)
