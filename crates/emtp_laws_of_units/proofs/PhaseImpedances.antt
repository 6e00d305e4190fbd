-- The end of a three-phase line: its phases together, and two of them apart.
use Rattle.std.proofs.Common.{◌≡◌, ◌∙◌, ◌+◌, ◌*◌, ◌^◌, ◌<◌, ◌≤◌, ◌%◌, ap, sym, refl, ℕ, zero, suc, ℤ, pos, ◌+ℤ◌, ◌-ℤ◌, ◌*ℤ◌, unsigned_abs, List, arith}
use Rattle.std.proofs.lemmas.Int.{ints, unsigned_abs-mul}
use Rattle.std.proofs.lemmas.Nat.{mul-le}
use Rattle.emtp_fix.proofs.Nearest.{near-rest}
use Rattle.emtp_fix.proofs.Wide.{mul_add}
use Rattle.emtp_fix.specs.Rounding.{near}
use Rattle.emtp_fix.specs.declared.limit.TheConstants.{PICO}
use Rattle.emtp_line.specs.Phases.{Modes, mutual_conductance, of_phase, own_conductance, phase_currents}
use Rattle.emtp_laws.proofs.Products.{add_mul, mul_assoc, mul_sub, sub_mul}
use Rattle.emtp_laws_of_units.specs.ThreePhases.{MeetsBoth, apart, excess_current, together}

-- ---- the conductances, of which both are rounded

-- gd + 2 go is g0, and gd - go is g1, within 1 pS each
all_near : (g0 g1 d o : ℤ) → 2 * unsigned_abs (g0 +ℤ pos 2 *ℤ g1 -ℤ d *ℤ pos 3) ≤ 3 → 2 * unsigned_abs (g0 -ℤ g1 -ℤ o *ℤ pos 3) ≤ 3 → unsigned_abs (d +ℤ pos 2 *ℤ o -ℤ g0) ≤ 1
all_near g0 g1 d o e f = omega (arith, ints, e, f)

two_near : (g0 g1 d o : ℤ) → 2 * unsigned_abs (g0 +ℤ pos 2 *ℤ g1 -ℤ d *ℤ pos 3) ≤ 3 → 2 * unsigned_abs (g0 -ℤ g1 -ℤ o *ℤ pos 3) ≤ 3 → unsigned_abs (d -ℤ o -ℤ g1) ≤ 1
two_near g0 g1 d o e f = omega (arith, ints, e, f)

-- what a difference of at most 1 makes of a voltage
small : (k v : ℤ) → unsigned_abs k ≤ 1 → unsigned_abs (k *ℤ v) ≤ unsigned_abs v
small k v h = omega (arith, unsigned_abs-mul k v, mul-le (unsigned_abs k) (unsigned_abs v) 1 (unsigned_abs v) h (omega arith))

-- ---- the products of a phase

product : ℤ → ℤ → List ℤ → ℕ → ℤ
product d o v p = d *ℤ of_phase v p +ℤ o *ℤ of_phase v ((p + 1) % 3) +ℤ o *ℤ of_phase v ((p + 2) % 3)

-- of each phase its own part, and the part of all three
parted : (d o : ℤ) (v : List ℤ) (p : ℕ) → p < 3 → product d o v p ≡ d *ℤ of_phase v p -ℤ o *ℤ of_phase v p +ℤ (o *ℤ of_phase v 0 +ℤ o *ℤ of_phase v 1 +ℤ o *ℤ of_phase v 2)
unfolding product
parted d o v zero inside = of_0 (d *ℤ of_phase v 0) (o *ℤ of_phase v 0) (o *ℤ of_phase v 1) (o *ℤ of_phase v 2)
  where
    of_0 : (a x y z : ℤ) → a +ℤ y +ℤ z ≡ a -ℤ x +ℤ (x +ℤ y +ℤ z)
    of_0 a x y z = omega (arith, ints)
parted d o v (suc zero) inside = of_1 (d *ℤ of_phase v 1) (o *ℤ of_phase v 0) (o *ℤ of_phase v 1) (o *ℤ of_phase v 2)
  where
    of_1 : (a x y z : ℤ) → a +ℤ z +ℤ x ≡ a -ℤ y +ℤ (x +ℤ y +ℤ z)
    of_1 a x y z = omega (arith, ints)
parted d o v (suc (suc zero)) inside = of_2 (d *ℤ of_phase v 2) (o *ℤ of_phase v 0) (o *ℤ of_phase v 1) (o *ℤ of_phase v 2)
  where
    of_2 : (a x y z : ℤ) → a +ℤ x +ℤ y ≡ a -ℤ z +ℤ (x +ℤ y +ℤ z)
    of_2 a x y z = omega (arith, ints)
parted d o v (suc (suc (suc p))) inside = absurd (omega (arith, inside))

-- the current of each phase is its product's and its history current
current_is : (m : Modes) (j v : List ℤ) (p : ℕ) → p < 3 → of_phase (phase_currents m j v) p ≡ near (product (own_conductance m) (mutual_conductance m) v p) PICO +ℤ of_phase j p
unfolding product
current_is m j v zero inside = refl
current_is m j v (suc zero) inside = refl
current_is m j v (suc (suc zero)) inside = refl
current_is m j v (suc (suc (suc p))) inside = absurd (omega (arith, inside))

-- ---- the law

products : (s0 s1 s2 d0 d1 d2 o0 o1 o2 dv ov : ℤ) → s0 ≡ d0 -ℤ o0 +ℤ (o0 +ℤ o1 +ℤ o2) → s1 ≡ d1 -ℤ o1 +ℤ (o0 +ℤ o1 +ℤ o2) → s2 ≡ d2 -ℤ o2 +ℤ (o0 +ℤ o1 +ℤ o2)
    → dv ≡ d0 +ℤ d1 +ℤ d2 → ov ≡ o0 +ℤ o1 +ℤ o2 → s0 +ℤ s1 +ℤ s2 ≡ dv +ℤ pos 2 *ℤ ov
products s0 s1 s2 d0 d1 d2 o0 o1 o2 dv ov a b c e f = omega (arith, ints, a, b, c, e, f)

currents : (n0 n1 n2 i0 i1 i2 j0 j1 j2 : ℤ) → i0 ≡ n0 +ℤ j0 → i1 ≡ n1 +ℤ j1 → i2 ≡ n2 +ℤ j2 → i0 +ℤ i1 +ℤ i2 -ℤ (j0 +ℤ j1 +ℤ j2) ≡ n0 +ℤ n1 +ℤ n2
currents n0 n1 n2 i0 i1 i2 j0 j1 j2 a b c = omega (arith, ints, a, b, c)

all_by : (s0 s1 s2 n0 n1 n2 x gv kv : ℤ) (most : ℕ) → kv ≡ s0 +ℤ s1 +ℤ s2 -ℤ gv → x ≡ n0 +ℤ n1 +ℤ n2 → unsigned_abs kv ≤ most
    → 2 * unsigned_abs (s0 -ℤ n0 *ℤ PICO) ≤ 10 ^ 12 → 2 * unsigned_abs (s1 -ℤ n1 *ℤ PICO) ≤ 10 ^ 12 → 2 * unsigned_abs (s2 -ℤ n2 *ℤ PICO) ≤ 10 ^ 12
    → 2 * unsigned_abs (PICO *ℤ x -ℤ gv) ≤ 2 * most + 3 * 10 ^ 12
all_by s0 s1 s2 n0 n1 n2 x gv kv most a b c e f g = omega (arith, ints, a, b, c, e, f, g)

two_bound : (sp sq np nq z gv kv : ℤ) (most : ℕ) → kv ≡ sp -ℤ sq -ℤ gv → z ≡ np -ℤ nq → unsigned_abs kv ≤ most
    → 2 * unsigned_abs (sp -ℤ np *ℤ PICO) ≤ 10 ^ 12 → 2 * unsigned_abs (sq -ℤ nq *ℤ PICO) ≤ 10 ^ 12 → unsigned_abs (PICO *ℤ z -ℤ gv) ≤ most + 10 ^ 12
two_bound sp sq np nq z gv kv most a b c e f = omega (arith, ints, a, b, c, e, f)

two_by : (sp sq np nq ip iq jp jq dp dq op oq t gv dv ov kv : ℤ) (most : ℕ)
    → sp ≡ dp -ℤ op +ℤ t → sq ≡ dq -ℤ oq +ℤ t → ip ≡ np +ℤ jp → iq ≡ nq +ℤ jq
    → dv ≡ dp -ℤ dq → ov ≡ op -ℤ oq → kv ≡ dv -ℤ ov -ℤ gv → unsigned_abs kv ≤ most
    → 2 * unsigned_abs (sp -ℤ np *ℤ PICO) ≤ 10 ^ 12 → 2 * unsigned_abs (sq -ℤ nq *ℤ PICO) ≤ 10 ^ 12
    → unsigned_abs (PICO *ℤ (ip -ℤ iq -ℤ (jp -ℤ jq)) -ℤ gv) ≤ most + 10 ^ 12
two_by sp sq np nq ip iq jp jq dp dq op oq t gv dv ov kv most a b c e f g h k x y = bound (ip -ℤ iq -ℤ (jp -ℤ jq)) (omega (arith, ints, c, e)) (omega (arith, ints, a, b, f, g, h))
  where
    bound : (z : ℤ) → z ≡ np -ℤ nq → kv ≡ sp -ℤ sq -ℤ gv → unsigned_abs (PICO *ℤ z -ℤ gv) ≤ most + 10 ^ 12
    bound z m n = two_bound sp sq np nq z gv kv most n m k x y

pub end_meets : (m : Modes) (v j : List ℤ) → MeetsBoth m.zero_sequence.conductance m.positive.conductance v j (phase_currents m j v)
end_meets m v j = record { all = all; two = two }
  where
    g0 : ℤ
    g0 = m.zero_sequence.conductance

    g1 : ℤ
    g1 = m.positive.conductance

    d : ℤ
    d = own_conductance m

    o : ℤ
    o = mutual_conductance m

    i : List ℤ
    i = phase_currents m j v

    in_d : 2 * unsigned_abs (g0 +ℤ pos 2 *ℤ g1 -ℤ d *ℤ pos 3) ≤ 3
    in_d = near-rest (g0 +ℤ pos 2 *ℤ g1) (pos 3) (λ none. cc)

    in_o : 2 * unsigned_abs (g0 -ℤ g1 -ℤ o *ℤ pos 3) ≤ 3
    in_o = near-rest (g0 -ℤ g1) (pos 3) (λ none. cc)

    rounded : (p : ℕ) → 2 * unsigned_abs (product d o v p -ℤ near (product d o v p) PICO *ℤ PICO) ≤ 10 ^ 12
    rounded p = near-rest (product d o v p) PICO (λ none. cc)

    spread : (g : ℤ) → g *ℤ together v ≡ g *ℤ of_phase v 0 +ℤ g *ℤ of_phase v 1 +ℤ g *ℤ of_phase v 2
    spread g = mul_add g (of_phase v 0 +ℤ of_phase v 1) (of_phase v 2) ∙ ap (λ z. z +ℤ g *ℤ of_phase v 2) (mul_add g (of_phase v 0) (of_phase v 1))

    all : 2 * unsigned_abs (excess_current g0 (together v) (together j) (together i)) ≤ 2 * unsigned_abs (together v) + 3 * 10 ^ 12
    all = all_by (product d o v 0) (product d o v 1) (product d o v 2) (near (product d o v 0) PICO) (near (product d o v 1) PICO) (near (product d o v 2) PICO)
        (together i -ℤ together j) (g0 *ℤ together v) ((d +ℤ pos 2 *ℤ o -ℤ g0) *ℤ together v) (unsigned_abs (together v))
        (sub_mul (d +ℤ pos 2 *ℤ o) g0 (together v)
        ∙ ap (λ z. z -ℤ g0 *ℤ together v) (add_mul d (pos 2 *ℤ o) (together v) ∙ ap (λ z. d *ℤ together v +ℤ z) (mul_assoc (pos 2) o (together v)) ∙ sym sum))
        (currents (near (product d o v 0) PICO) (near (product d o v 1) PICO) (near (product d o v 2) PICO) (of_phase i 0) (of_phase i 1) (of_phase i 2) (of_phase j 0) (of_phase j 1) (of_phase j 2)
        (current_is m j v 0 (omega arith)) (current_is m j v 1 (omega arith)) (current_is m j v 2 (omega arith)))
        (small (d +ℤ pos 2 *ℤ o -ℤ g0) (together v) (all_near g0 g1 d o in_d in_o))
        (rounded 0) (rounded 1) (rounded 2)
      where
        sum : product d o v 0 +ℤ product d o v 1 +ℤ product d o v 2 ≡ d *ℤ together v +ℤ pos 2 *ℤ (o *ℤ together v)
        sum = products (product d o v 0) (product d o v 1) (product d o v 2) (d *ℤ of_phase v 0) (d *ℤ of_phase v 1) (d *ℤ of_phase v 2) (o *ℤ of_phase v 0) (o *ℤ of_phase v 1) (o *ℤ of_phase v 2) (d *ℤ together v) (o *ℤ together v)
            (parted d o v 0 (omega arith)) (parted d o v 1 (omega arith)) (parted d o v 2 (omega arith)) (spread d) (spread o)

    two : (p q : ℕ) → p < 3 → q < 3 → unsigned_abs (excess_current g1 (apart v p q) (apart j p q) (apart i p q)) ≤ unsigned_abs (apart v p q) + 10 ^ 12
    two p q in_p in_q =
        let u = apart v p q in
        two_by (product d o v p) (product d o v q) (near (product d o v p) PICO) (near (product d o v q) PICO) (of_phase i p) (of_phase i q) (of_phase j p) (of_phase j q)
        (d *ℤ of_phase v p) (d *ℤ of_phase v q) (o *ℤ of_phase v p) (o *ℤ of_phase v q) (o *ℤ of_phase v 0 +ℤ o *ℤ of_phase v 1 +ℤ o *ℤ of_phase v 2)
        (g1 *ℤ u) (d *ℤ u) (o *ℤ u) ((d -ℤ o -ℤ g1) *ℤ u) (unsigned_abs u)
        (parted d o v p in_p) (parted d o v q in_q) (current_is m j v p in_p) (current_is m j v q in_q)
        (mul_sub d (of_phase v p) (of_phase v q)) (mul_sub o (of_phase v p) (of_phase v q))
        (sub_mul (d -ℤ o) g1 u ∙ ap (λ z. z -ℤ g1 *ℤ u) (sub_mul d o u))
        (small (d -ℤ o -ℤ g1) u (two_near g0 g1 d o in_d in_o))
        (rounded p) (rounded q)
