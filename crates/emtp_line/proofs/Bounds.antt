-- Bounds on what the law of a line computes.
use Rattle.emtp_case.specs.held.RunData.{IsTimeStep}
use Rattle.std.proofs.Common.{◌≡◌, ◌∙◌, ap, ℕ, ◌+◌, ◌*◌, ◌^◌, ◌/◌, ◌%◌, ◌<◌, ◌≤◌, ⊎_elim, ℤ, pos, ◌+ℤ◌, ◌-ℤ◌, ◌*ℤ◌, ◌≤ℤ◌, unsigned_abs, neg_ℤ, [], ◌∷◌, ◌-◌, refl, FitsSigned, arith}
use mir.Syntax.{w64}
use Rattle.std.proofs.lemmas.Bool.{cases_lt}
use Rattle.std.proofs.lemmas.Int.{ints, unsigned_abs-mul}
use Rattle.std.proofs.Math.Nat.{mul-le-mul_left, mod-lt, lt-div-mul-add, div-mul-le_self}
use Rattle.emtp_case.proofs.Impedances.{conductance_range}
use Rattle.emtp_case.specs.Branch.{line_impedance}
use Rattle.emtp_case.specs.held.Branch.{HasLineNumbers}
use Rattle.emtp_case.specs.held.Range.{IsBetween}
use Rattle.emtp_fix.specs.Rounding.{near}
use Rattle.emtp_fix.specs.declared.limit.TheConstants.{ATTO, LARGEST_ENTRY, LARGEST_IMPEDANCE, PICO}
use Rattle.emtp_fix.proofs.Nearest.{unsigned_abs-near-le, near-zero}
use Rattle.emtp_fix.proofs.Quotients.{near-within, near-nonneg, near-part, between-low, between-high}
use Rattle.emtp_fix.proofs.Wide.{fits_between}
use Rattle.emtp_line.specs.Mode.{mode_of, far_share_of}
use Rattle.emtp_line.specs.held.Mode.{IsMode}
use Rattle.emtp_line.specs.Wave.{wave_of, between}
use Rattle.emtp_line.specs.held.Lines.{no_mode}
use Rattle.emtp_line.specs.declared.mode.Mode.{Mode}

pub quarter_range : (r : ℤ) → IsBetween 0 LARGEST_IMPEDANCE r → IsBetween 0 LARGEST_IMPEDANCE (near r (pos 4))
quarter_range r h = record { least = near-nonneg r (pos 4) h.least (omega (arith, ints)); most = omega (arith, ints, h.most, h.least, unsigned_abs-near-le r (pos 4)) }

pub share_small : (part z : ℤ) → unsigned_abs part ≤ unsigned_abs z → unsigned_abs (near (part *ℤ PICO) z) ≤ 10 ^ 12
share_small part z h = near-within (part *ℤ PICO) z (10 ^ 12) (omega (arith, ints, h, unsigned_abs-mul part (PICO)))

-- the numbers of a line are in range
pub mode_fits : (dt zc r delay : ℤ) → IsTimeStep dt → HasLineNumbers dt zc r delay → IsMode (mode_of dt zc r delay)
mode_fits dt zc r delay step h =
    let quarter = quarter_range r h.r in
    let z : line_impedance zc r ≡ zc +ℤ near r (pos 4) = refl in
    let above : pos 0 ≤ℤ line_impedance zc r = omega (arith, ints, h.impedance.least) in
    let a_small : unsigned_abs (far_share_of zc r) ≤ 10 ^ 12 = share_small zc (line_impedance zc r) (omega (arith, ints, z, quarter.least, h.surge.least)) in
    let a_least : pos 0 ≤ℤ far_share_of zc r = near-nonneg (zc *ℤ PICO) (line_impedance zc r) (omega (arith, ints, h.surge.least)) above in
    let some : 1 * unsigned_abs dt ≤ unsigned_abs delay = omega (arith, ints, h.long, step.least) in
    let nonzero : 0 < unsigned_abs dt = omega (arith, ints, step.least) in
    let thousand : 1000 ≤ unsigned_abs dt = omega (arith, ints, step.least) in
    record {
      conductance = conductance_range (line_impedance zc r) (record { least = h.impedance.least; most = h.impedance.most });
      attenuation = share_small (zc -ℤ near r (pos 4)) (line_impedance zc r) (omega (arith, ints, z, quarter.least, h.surge.least));
      far_share = record { least = a_least; most = omega (arith, ints, a_small) };
      near_share = record { least = omega (arith, ints, a_small); most = omega (arith, ints, a_least) };
      some_steps = some_quotient (unsigned_abs delay) (unsigned_abs dt) nonzero some;
      few_steps = few_quotient (unsigned_abs delay) (unsigned_abs dt) thousand (omega (arith, ints, h.delay, h.long, step.least));
      rest = record { least = omega (arith, ints); most = omega (arith, ints, mod-lt (unsigned_abs delay) nonzero, step.most, step.least) };
      rest_below = omega (arith, ints, mod-lt (unsigned_abs delay) nonzero, step.least);
      dt = record { least = omega (arith, ints, step.least); most = step.most };
    }
  where
    some_quotient : (n d : ℕ) → 0 < d → 1 * d ≤ n → 1 ≤ n / d
    some_quotient n d above h = ⊎_elim
        (λ (none : n / d < 1). let low : n < (n / d) * d + d = lt-div-mul-add {a = n} {b = d} above in let zero' : n / d ≡ 0 = omega arith in let none' : (n / d) * d ≡ 0 = rw zero' (omega arith) in absurd (omega (arith, low, none', h)))
        (λ (some : 1 ≤ n / d). some)
        (cases_lt (n / d) 1)

    few_quotient : (n d : ℕ) → 1000 ≤ d → n ≤ 10 ^ 18 → n / d ≤ 10 ^ 15
    few_quotient n d large small =
        let most : (n / d) * d ≤ n = div-mul-le_self n d in
        let thousands : (n / d) * 1000 ≤ (n / d) * d = mul-le-mul_left (n / d) large in
        omega (arith, most, thousands, small)

-- the rest of the travel time is a part of a step
rest_part : (m : Mode) → IsMode m → m.rest ≤ℤ m.dt
rest_part m h = omega (arith, ints, h.rest_below)

pub between_fits : (m : Mode) (newer older : ℤ) → IsMode m → FitsSigned w64 newer → FitsSigned w64 older → FitsSigned w64 (between m newer older)
between_fits m newer older h f g =
    fits_between (between m newer older)
    (between-low m.rest m.dt newer older (neg_ℤ (pos (2 ^ 63))) h.rest.least (rest_part m h) (omega (arith, ints, f)) (omega (arith, ints, g)))
    (between-high m.rest m.dt newer older (pos (2 ^ 63 - 1)) h.rest.least (rest_part m h) (omega (arith, ints, f)) (omega (arith, ints, g)))

pub portion_small : (m : Mode) (z : ℤ) → IsMode m → unsigned_abs z ≤ 2 ^ 64 → unsigned_abs (near (m.rest *ℤ z) m.dt) ≤ 2 ^ 64
portion_small m z h wide =
    let part = near-part m.rest m.dt z h.rest.least (rest_part m h) in
    omega (arith, part.size, wide)

-- nothing is left of a travel time of whole steps
pub between-whole : (m : Mode) (newer older : ℤ) → m.rest ≡ pos 0 → between m newer older ≡ newer
between-whole m newer older none =
    let zero' : pos 0 *ℤ (older -ℤ newer) ≡ pos 0 = omega (arith, ints) in
    let part : near (m.rest *ℤ (older -ℤ newer)) m.dt ≡ pos 0 = ap (λ z. near (z *ℤ (older -ℤ newer)) m.dt) none ∙ ap (λ z. near z m.dt) zero' ∙ near-zero m.dt in
    omega (arith, ints, part)

pub made : (dt zc r delay g h a b rest dt' : ℤ) (steps : ℕ) → g ≡ near ATTO (line_impedance zc r) → h ≡ near ((zc -ℤ near r (pos 4)) *ℤ PICO) (line_impedance zc r) → a ≡ far_share_of zc r → b ≡ PICO -ℤ far_share_of zc r
    → steps ≡ unsigned_abs delay / unsigned_abs dt → rest ≡ pos (unsigned_abs delay % unsigned_abs dt) → dt' ≡ dt → record { conductance = g; attenuation = h; far_share = a; near_share = b; steps = steps; rest = rest; dt = dt' } ≡ mode_of dt zc r delay
made dt zc r delay g h a b rest dt' steps eg eh ea eb es er et = rw (eg, eh, ea, eb, es, er, et) refl

pub no_mode_fits : IsMode no_mode
no_mode_fits = record {
  conductance = record { least = omega (arith, ints); most = omega (arith, ints) };
  attenuation = omega arith;
  far_share = record { least = omega (arith, ints); most = omega (arith, ints) };
  near_share = record { least = omega (arith, ints); most = omega (arith, ints) };
  some_steps = omega arith;
  few_steps = omega arith;
  rest = record { least = omega (arith, ints); most = omega (arith, ints) };
  rest_below = omega (arith, ints);
  dt = record { least = omega (arith, ints); most = omega (arith, ints) };
}

pub own_range : (zero' positive : ℤ) → IsBetween 0 LARGEST_ENTRY zero' → IsBetween 0 LARGEST_ENTRY positive → IsBetween 0 LARGEST_ENTRY (near (zero' +ℤ pos 2 *ℤ positive) (pos 3))
own_range z p h k =
    let small : unsigned_abs (near (z +ℤ pos 2 *ℤ p) (pos 3)) ≤ LARGEST_ENTRY = near-within (z +ℤ pos 2 *ℤ p) (pos 3) LARGEST_ENTRY (omega (arith, ints, h.least, h.most, k.least, k.most)) in
    record { least = near-nonneg (z +ℤ pos 2 *ℤ p) (pos 3) (omega (arith, ints, h.least, k.least)) (omega (arith, ints)); most = omega (arith, ints, small) }

pub mutual_small : (zero' positive : ℤ) → IsBetween 0 LARGEST_ENTRY zero' → IsBetween 0 LARGEST_ENTRY positive → unsigned_abs (near (zero' -ℤ positive) (pos 3)) ≤ LARGEST_ENTRY
mutual_small z p h k = near-within (z -ℤ p) (pos 3) LARGEST_ENTRY (omega (arith, ints, h.least, h.most, k.least, k.most))

pub sum_within : (a b c : ℤ) (m : ℕ) → unsigned_abs a ≤ m → unsigned_abs b ≤ m → unsigned_abs c ≤ m → unsigned_abs (a +ℤ b +ℤ c) ≤ 3 * m
sum_within a b c m p q r = omega (arith, ints, p, q, r)

pub three_same : {a b c a' b' c' : ℤ} → a ≡ a' → b ≡ b' → c ≡ c' → a ∷ b ∷ c ∷ [] ≡ a' ∷ b' ∷ c' ∷ []
three_same p q r = rw (p, q, r) refl

pub wave_same : (m m' : Mode) (v i vm vm' im im' : ℤ) → m ≡ m' → vm ≡ vm' → im ≡ im' → wave_of m (v -ℤ vm) (i -ℤ im) ≡ wave_of m' (v -ℤ vm') (i -ℤ im')
wave_same m m' v i vm vm' im im' p q r = rw (p, q, r) refl
