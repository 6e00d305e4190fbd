-- How large the numbers of admittances are.
use Rattle.std.proofs.Common.{◌≡◌, ◌≢◌, ◌∙◌, sym, ap, ℕ, suc, zero, ◌+◌, ◌*◌, ◌^◌, ◌≤◌, ℤ, pos, negsuc, ◌*ℤ◌, ◌≤ℤ◌, unsigned_abs, neg_ℤ, nat_lt, false, Some, refl, inl, inr, arith}
use Rattle.std.proofs.lemmas.Bool.{cases_lt}
use Rattle.std.proofs.lemmas.Bool.Decides.{nat_tests}
use Rattle.std.proofs.lemmas.Int.{ints, unsigned_abs-mul}
use Rattle.std.proofs.lemmas.Nat.{mul-le}
use Rattle.emtp_fix.specs.Rounding.{near, near_abs}
use Rattle.emtp_fix.specs.declared.limit.TheConstants.{ATTO, LARGEST_ENTRY, PICO}
use Rattle.emtp_fix.proofs.Nearest.{near-from_zero, near_abs-low, near_abs-high, near_abs-mono, near_abs_is, unsigned_abs-near}
use Rattle.emtp_fix.proofs.Wide.{abs-mul-le}
use Rattle.emtp_case.specs.held.Range.{IsBetween}
use Rattle.emtp_admittance.specs.held.Frequency.{IsFrequency}
use Rattle.emtp_admittance.specs.Impedance.{lossless_port, squared, susceptance}
use Rattle.emtp_admittance.specs.declared.admittance.Admittance.{Admittance}
use Rattle.emtp_admittance.specs.declared.admittance.TwoPort.{TwoPort}

pub angular_range : (r f : ℤ) → r ≡ near (pos 6283185307179586 *ℤ f) PICO → IsFrequency f → IsBetween 1 (10 ^ 17) r
angular_range r f is between =
    let a = pos 6283185307179586 *ℤ f in
    let low : pos 0 ≤ℤ a = omega (arith, ints, between.least, between.most) in
    let same : near a PICO ≡ pos (near_abs (unsigned_abs a) (10 ^ 12)) = near-from_zero a (10 ^ 12) low in
    let under = near_abs-low (unsigned_abs a) (10 ^ 12) (omega arith) in
    let over = near_abs-high (unsigned_abs a) (10 ^ 12) (omega arith) in
    rw (is, same) (record {
      least = omega (arith, ints, under, over, between.least, between.most);
      most = omega (arith, ints, under, over, between.least, between.most);
    })

-- ten times a number of at least 10 is at most its square
ten_times : (n : ℕ) → 10 ≤ n → 10 * n ≤ n * n
ten_times n least = mul-le 10 n n n least (omega arith)

self_up : (z : ℤ) → pos 0 ≤ℤ (z *ℤ z)
self_up (pos n) = omega (arith, ints)
self_up (negsuc n) = omega (arith, ints)

square_abs : (r x : ℤ) → unsigned_abs (squared r x) ≡ unsigned_abs r * unsigned_abs r + unsigned_abs x * unsigned_abs x
square_abs r x =
    let one = unsigned_abs-mul r r in
    let two = unsigned_abs-mul x x in
    let up : pos 0 ≤ℤ (r *ℤ r) = self_up r in
    let up_2 : pos 0 ≤ℤ (x *ℤ x) = self_up x in
    omega (arith, ints, one, two, up, up_2)

by_size : (n rest whole : ℕ) → whole ≡ n * n + rest → 100 ≤ whole → 10 * n ≤ whole
by_size n rest whole is least = elim (cases_lt n 10) [
  | inl below ↦ omega (arith, below, least)
  | inr large ↦ omega (arith, ten_times n large, is)
]

-- ten times each part is at most the square of the magnitude, where that is at least 100
pub part_of_square : (r x : ℤ) → 100 ≤ unsigned_abs (squared r x) → (10 * unsigned_abs r ≤ unsigned_abs (squared r x)) × (10 * unsigned_abs x ≤ unsigned_abs (squared r x))
part_of_square r x least =
    let is = square_abs r x in (
      by_size (unsigned_abs r) (unsigned_abs x * unsigned_abs x) (unsigned_abs (squared r x)) is least,
      by_size (unsigned_abs x) (unsigned_abs r * unsigned_abs r) (unsigned_abs (squared r x)) (omega (arith, is)) least,
    )

-- an own susceptance is no more than a mutual one
pub own_small : (cs span : ℤ) → unsigned_abs cs ≤ 10 ^ 12 → unsigned_abs (near (pos (10 ^ 30)) span) ≤ LARGEST_ENTRY → unsigned_abs (near (cs *ℤ ATTO) span) ≤ LARGEST_ENTRY
own_small cs span small bound =
    let is = unsigned_abs-near (cs *ℤ ATTO) span in
    let other : unsigned_abs (near (pos (10 ^ 30)) span) ≡ near_abs (10 ^ 30) (unsigned_abs span) = unsigned_abs-near (pos (10 ^ 30)) span in
    let less : unsigned_abs (cs *ℤ ATTO) ≤ 10 ^ 30 = omega (arith, ints, small) in
    omega (arith, is, other, bound, near_abs-mono (unsigned_abs (cs *ℤ ATTO)) (10 ^ 30) (unsigned_abs span) less)

some : (a : ℤ) → a ≢ pos 0 → 1 ≤ unsigned_abs a
some (pos zero) nonzero = absurd (nonzero refl)
some (pos (suc n)) nonzero = omega (arith, ints)
some (negsuc n) nonzero = omega (arith, ints)

pub product_nonzero : (r a b : ℤ) → r ≡ a *ℤ b → a ≢ pos 0 → pos 10 ≤ℤ b → r ≢ pos 0
product_nonzero r a b is nonzero least zero_is =
    let size = unsigned_abs-mul a b in
    let one : 1 ≤ unsigned_abs a = some a nonzero in
    let ten : 10 ≤ unsigned_abs b = omega (arith, ints, least) in
    let more : 1 * 10 ≤ unsigned_abs a * unsigned_abs b = mul-le 1 10 (unsigned_abs a) (unsigned_abs b) one ten in
    let none : unsigned_abs (a *ℤ b) ≡ 0 = ap unsigned_abs (sym is ∙ zero_is) in
    omega (arith, size, more, none)

-- a share of a number that is at least ten times it
pub share_small : (part square : ℤ) → 10 * unsigned_abs part ≤ unsigned_abs square → square ≢ pos 0 → unsigned_abs (near (part *ℤ ATTO) square) ≤ LARGEST_ENTRY
share_small part square ten nonzero =
    let is = unsigned_abs-near (part *ℤ ATTO) square in
    let up : unsigned_abs (part *ℤ ATTO) ≤ LARGEST_ENTRY * unsigned_abs square = omega (arith, ints, ten) in
    let more = near_abs-mono (unsigned_abs (part *ℤ ATTO)) (LARGEST_ENTRY * unsigned_abs square) (unsigned_abs square) up in
    let whole : near_abs (LARGEST_ENTRY * unsigned_abs square) (unsigned_abs square) ≡ LARGEST_ENTRY = near_abs_is (LARGEST_ENTRY * unsigned_abs square) (unsigned_abs square) LARGEST_ENTRY (omega arith) (omega (arith, some square nonzero)) in
    omega (arith, is, more, whole)

-- a product with a number of up to 1, in units of 1e-12
pub share_in_pico : (a b : ℤ) → unsigned_abs a ≤ 10 ^ 18 → unsigned_abs b ≤ 10 ^ 12 → unsigned_abs (near (a *ℤ b) PICO) ≤ 10 ^ 18
share_in_pico a b small part =
    let is : unsigned_abs (near (a *ℤ b) PICO) ≡ near_abs (unsigned_abs (a *ℤ b)) (10 ^ 12) = unsigned_abs-near (a *ℤ b) PICO in
    let up : unsigned_abs (a *ℤ b) ≤ 10 ^ 30 = omega (arith, abs-mul-le a b (10 ^ 18) (10 ^ 12) small part) in
    let more = near_abs-mono (unsigned_abs (a *ℤ b)) (10 ^ 30) (10 ^ 12) up in
    let whole : near_abs (10 ^ 30) (10 ^ 12) ≡ 10 ^ 18 = near_abs_is (10 ^ 30) (10 ^ 12) (10 ^ 18) (omega arith) (omega arith) in
    omega (arith, is, more, whole)

-- what an impedance and its square give
pub inverse_small : (r x square : ℤ) → square ≡ squared r x → 100 ≤ unsigned_abs square
    → (unsigned_abs (near (r *ℤ ATTO) square) ≤ LARGEST_ENTRY) × (unsigned_abs (near (x *ℤ ATTO) square) ≤ LARGEST_ENTRY)
inverse_small r x square is least =
    let nonzero : square ≢ pos 0 = λ e. none (unsigned_abs square) least (ap unsigned_abs e) in
    let parts = part_of_square r x (rw is at least) in
    let one : 10 * unsigned_abs r ≤ unsigned_abs square = rw is parts.0 in
    let two : 10 * unsigned_abs x ≤ unsigned_abs square = rw is parts.1 in
    (share_small r square one nonzero, share_small x square two nonzero)
  where
    none : (n : ℕ) → 100 ≤ n → n ≡ 0 → ⊥
    none n least e = omega (arith, least, e)

abbrev pub port : Admittance → Admittance → TwoPort
port own other = record { own = own; other = other }

abbrev pub admittance : ℤ → ℤ → Admittance
admittance g b = record { conductance = g; susceptance = b }

pub admittance_is : (g b h k : ℤ) → g ≡ h → b ≡ k → admittance g b ≡ admittance h k
admittance_is g b h k one two = rw (one, two) refl

-- the two-port of a line, whose coupled susceptance is in range
pub lossless_is : (cs sn zc span q m : ℤ) (own other : Admittance) → span ≡ sn *ℤ zc → m ≡ near (pos (10 ^ 30)) span → unsigned_abs m ≤ LARGEST_ENTRY → q ≡ near (cs *ℤ ATTO) span → own ≡ susceptance (neg_ℤ q) → other ≡ susceptance m
    → Some (port own other) ≡ lossless_port cs sn zc
lossless_is cs sn zc span q m own other is coupled small turn first second =
    let whole : m ≡ near (pos (10 ^ 30)) (sn *ℤ zc) = coupled ∙ ap (near (pos (10 ^ 30))) is in
    let test : nat_lt LARGEST_ENTRY (unsigned_abs (near (pos (10 ^ 30)) (sn *ℤ zc))) ≡ false = below (unsigned_abs (near (pos (10 ^ 30)) (sn *ℤ zc))) (rw whole at small) in
    rw test (ap Some (ap (λ y. port y other) (first ∙ ap (λ q. susceptance (neg_ℤ q)) (turn ∙ ap (near (cs *ℤ ATTO)) is)) ∙ ap (λ y. port (susceptance (neg_ℤ (near (cs *ℤ ATTO) (sn *ℤ zc)))) y) (second ∙ ap susceptance whole)))
  where
    below : (n : ℕ) → n ≤ LARGEST_ENTRY → nat_lt LARGEST_ENTRY n ≡ false
    below n small = grind (arith, nat_tests)
