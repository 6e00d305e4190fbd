use Rattle.std.proofs.Common.{◌≡◌, ◌≢◌, ◌≤◌, ◌+ℤ◌, ◌∙◌, ◌==◌, unsigned_abs, pos, to_z, of_z, arith, ap, sym, refl, ℕ, ℤ, Bool, true, false, List, Some}
use Rattle.std.specs.Prelude.{◌&&◌, if◌then◌else◌}
use mir.Syntax.{w128}
use Rattle.std.proofs.lemmas.Int.{ints}
use Rattle.std.proofs.lemmas.Bool.{leb-true}
use Rattle.std.proofs.lemmas.Bool.Decides.{nat_tests}
use Rattle.emtp_fix.specs.declared.limit.TheConstants.{LARGEST_VALUE}
use Rattle.emtp_case.specs.Branch.{from_of, to_of}
use Rattle.emtp_case.specs.declared.branch.Branch.{Branch}
use Rattle.emtp_admittance.specs.declared.admittance.TwoPort.{TwoPort}
use Rattle.emtp_phasor.specs.declared.phasor.Phasor.{Phasor}
use Rattle.emtp_phasor.specs.Steady.{first_current, flows, second_current}
use Rattle.emtp_phasor.proofs.flow.leaving_by.Goals as goal

all_four : (p q r s : Bool) → ((p && q) && (r && s)) ≡ true → (p ≡ true) × ((q ≡ true) × ((r ≡ true) × (s ≡ true)))
all_four true true true true h = (refl, (refl, (refl, refl)))
all_four false q r s h = absurd (cc)
all_four true false r s h = absurd (cc)
all_four true true false s h = absurd (cc)
all_four true true true false h = absurd (cc)

in_flow : (part : Bool) (y : TwoPort) (volts : List Phasor) (b : Branch) → flows y volts (Some b) ≡ true → (unsigned_abs (first_current part y volts b) ≤ LARGEST_VALUE) × (unsigned_abs (second_current part y volts b) ≤ LARGEST_VALUE)
in_flow false y volts b h =
    let all = all_four _ _ _ _ h in
    (leb-true _ _ all.0, leb-true _ _ all.1.1.0)
in_flow true y volts b h =
    let all = all_four _ _ _ _ h in
    (leb-true _ _ all.1.0, leb-true _ _ all.1.1.1)

same : (f n : ℕ) → f ≡ n → (f == n) ≡ true
same f n h = grind (arith, nat_tests)

other : (f n : ℕ) → f ≢ n → (f == n) ≡ false
other f n h = grind (arith, nat_tests)

both : (f t n : ℕ) (x y r : ℤ) → f ≡ n → t ≡ n → r ≡ x +ℤ y → r ≡ (if f == n then x else pos 0) +ℤ (if t == n then y else pos 0)
both f t n x y r h k e = rw (same f n h, same t n k) e

first_alone : (f t n : ℕ) (x y r : ℤ) → f ≡ n → t ≢ n → r ≡ x → r ≡ (if f == n then x else pos 0) +ℤ (if t == n then y else pos 0)
first_alone f t n x y r h k e = rw (same f n h, other t n k) (omega (arith, ints, e))

second_alone : (f t n : ℕ) (x y r : ℤ) → f ≢ n → t ≡ n → r ≡ y → r ≡ (if f == n then x else pos 0) +ℤ (if t == n then y else pos 0)
second_alone f t n x y r h k e = rw (other f n h, same t n k) (omega (arith, ints, e))

narrow : (r x : ℤ) → r ≡ x → unsigned_abs x ≤ LARGEST_VALUE → to_z w128 (of_z w128 r) ≡ x
narrow r x e small = omega (arith, ints, e, small)

added : (r s x y : ℤ) → r ≡ x → s ≡ y → unsigned_abs x ≤ LARGEST_VALUE → unsigned_abs y ≤ LARGEST_VALUE → to_z w128 (of_z w128 (to_z w128 (of_z w128 r) +ℤ to_z w128 (of_z w128 s))) ≡ x +ℤ y
added r s x y e f small small' = rw (narrow r x e small, narrow s y f small') (omega (arith, ints, small, small'))

pub overflow_add-result : goal.overflow_add-result
overflow_add-result c =
    let inside = in_flow c.args.imaginary c.args.y.now c.args.volts.now c.args.b.now c.requires.flows in
    rw (narrow _ _ c.first_current.ensures inside.0, narrow _ _ c.second_current.ensures inside.1) (omega (arith, ints, inside.0, inside.1))

pub returns-then-to-node-clause-value : goal.returns-then-to-node-clause-value
returns-then-to-node-clause-value c =
    let inside = in_flow c.args.imaginary c.args.y.now c.args.volts.now c.args.b.now c.requires.flows in
    both _ _ _ _ _ _ (sym (ap (λ p. p.0) c.ends-from.ensures) ∙ c.if-from-node.true) (sym (ap (λ p. p.1) c.ends-from.ensures) ∙ c.if-to-node.true)
    (added _ _ _ _ c.first_current.ensures c.second_current.ensures inside.0 inside.1)

pub returns-then-to-node-clause-small : goal.returns-then-to-node-clause-small
returns-then-to-node-clause-small c =
    let inside = in_flow c.args.imaginary c.args.y.now c.args.volts.now c.args.b.now c.requires.flows in
    rw (added _ _ _ _ c.first_current.ensures c.second_current.ensures inside.0 inside.1) (omega (arith, ints, inside.0, inside.1))

pub returns-else-to-node-clause-value : goal.returns-else-to-node-clause-value
returns-else-to-node-clause-value c =
    let inside = in_flow c.args.imaginary c.args.y.now c.args.volts.now c.args.b.now c.requires.flows in
    first_alone (from_of c.args.b.now) (to_of c.args.b.now) _ _ _ _ (sym (ap (λ p. p.0) c.ends-from.ensures) ∙ c.if-from-node.true) (rw (ap (λ p. p.1) c.ends-from.ensures) at c.if-to-node.false)
    (narrow _ _ c.first_current-else-to-node.ensures inside.0)

pub returns-else-to-node-clause-small : goal.returns-else-to-node-clause-small
returns-else-to-node-clause-small c =
    let inside = in_flow c.args.imaginary c.args.y.now c.args.volts.now c.args.b.now c.requires.flows in
    rw (narrow _ _ c.first_current-else-to-node.ensures inside.0) (omega (arith, inside.0))

pub returns-then-to-node-2-clause-value : goal.returns-then-to-node-2-clause-value
returns-then-to-node-2-clause-value c =
    let inside = in_flow c.args.imaginary c.args.y.now c.args.volts.now c.args.b.now c.requires.flows in
    second_alone (from_of c.args.b.now) (to_of c.args.b.now) _ _ _ _ (rw (ap (λ p. p.0) c.ends-from.ensures) at c.if-from-node.false) (sym (ap (λ p. p.1) c.ends-from.ensures) ∙ c.if-to-node-2.true)
    (narrow _ _ c.second_current-then-to-node-2.ensures inside.1)

pub returns-then-to-node-2-clause-small : goal.returns-then-to-node-2-clause-small
returns-then-to-node-2-clause-small c =
    let inside = in_flow c.args.imaginary c.args.y.now c.args.volts.now c.args.b.now c.requires.flows in
    rw (narrow _ _ c.second_current-then-to-node-2.ensures inside.1) (omega (arith, inside.1))
