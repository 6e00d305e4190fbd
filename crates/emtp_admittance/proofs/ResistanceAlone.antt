-- What a series branch is where its two reactances are equal.
use Rattle.std.proofs.Common.{◌≡◌, ap, ℤ, pos, neg_ℤ, ◌-ℤ◌, ◌*ℤ◌, ◌||◌, nat_lt, unsigned_abs, Bool, true, false, if◌then◌else◌, Option, Some, None, IfSome, arith}
use Rattle.std.proofs.lemmas.Int.{ints}
use Rattle.emtp_fix.proofs.Quotients.{near-zero_times}
use Rattle.emtp_fix.specs.Rounding.{near}
use Rattle.emtp_fix.specs.declared.limit.TheConstants.{ATTO}
use Rattle.emtp_case.specs.declared.branch.Lumped.{Lumped}
use Rattle.emtp_admittance.specs.Impedance.{across_ends, across_impedance, capacitive_reactance, inductive_reactance, inverse, is_too_large, series_port, squared}
use Rattle.emtp_admittance.specs.EqualReactances.{resistance_alone}
use Rattle.emtp_admittance.specs.declared.admittance.Admittance.{Admittance}
use Rattle.emtp_admittance.specs.declared.admittance.TwoPort.{TwoPort}

pub unless_none : (b : Bool) (o : Option TwoPort) (P : TwoPort → Type 0) → IfSome o P → IfSome (if b then None else o) P
unless_none true o P holds = tt
unless_none false o P holds = holds

no_reactance : (r : ℤ) → inverse r (pos 0) ≡ resistance_alone r
no_reactance r =
    let with_part : ℤ → Admittance = λ b. record { conductance = near (r *ℤ ATTO) (squared r (pos 0)); susceptance = neg_ℤ b } in
    ap with_part (near-zero_times ATTO (squared r (pos 0)))

across_resistance : (r x : ℤ) → x ≡ pos 0 → IfSome (across_impedance r x) (λ y. y ≡ across_ends (resistance_alone r))
across_resistance r x is =
    let P : TwoPort → Type 0 = λ y. y ≡ across_ends (resistance_alone r) in
    rw is (unless_none (nat_lt (unsigned_abs (squared r (pos 0))) 100) (Some (across_ends (inverse r (pos 0)))) P (ap across_ends (no_reactance r)))

pub resistance_left : (w : ℤ) (b : Lumped) → inductive_reactance w b.l ≡ capacitive_reactance w b.c → IfSome (series_port w b) (λ y. y ≡ across_ends (resistance_alone b.r))
unfolding series_port
resistance_left w b equal =
    let P : TwoPort → Type 0 = λ y. y ≡ across_ends (resistance_alone b.r) in
    let none : (inductive_reactance w b.l -ℤ capacitive_reactance w b.c) ≡ pos 0 = omega (arith, ints, equal) in
    unless_none (is_too_large (inductive_reactance w b.l) || is_too_large (capacitive_reactance w b.c)) (across_impedance b.r (inductive_reactance w b.l -ℤ capacitive_reactance w b.c)) P
    (across_resistance b.r (inductive_reactance w b.l -ℤ capacitive_reactance w b.c) none)
