-- Dividing by a power of ten cuts digits off, and the first of them rounds the rest.
use Rattle.std.proofs.Math.Nat.{pow-le-pow_right}
use Rattle.std.proofs.lemmas.Bool.{cases_lt}
use Rattle.std.proofs.Common.{⊎_elim}
use Rattle.std.proofs.Common.{◌≡◌, ◌∙◌, sym, ap, subst, ℕ, suc, ◌+◌, ◌-◌, ◌*◌, ◌^◌, ◌<◌, ◌≤◌, List, ◌∷◌, ◌++◌, take, drop, length, get_or, arith, lit<, take-append-drop, length-drop, pow-suc, mul-le-mul_right}
use Rattle.std.proofs.lemmas.List.{drop_more}
use Rattle.std.specs.Char.{IsAsciiDigit}
use Rattle.std.proofs.lemmas.List.Elements.{All-tail, All-drop}
use Rattle.emtp_fix.specs.Rounding.{near_abs}
use Rattle.emtp_fix.proofs.Nearest.{near_abs_is}
use Rattle.emtp_card.specs.Decimal.{number_of}
use Rattle.emtp_card.specs.held.Numeral.{AreDigits}
use Rattle.emtp_card.proofs.Digits.{with_digits-append, with_digits-is, number_of-lt}

-- a quotient and a rest, rounded
near_up : (q d s : ℕ) → s < d → d ≤ 2 * s → near_abs (q * d + s) d ≡ q + 1
near_up q d s below half = near_abs_is (q * d + s) d (q + 1) (omega arith) (omega arith)

near_down : (q d s : ℕ) → 2 * s < d → near_abs (q * d + s) d ≡ q
near_down q d s half = near_abs_is (q * d + s) d q (omega arith) (omega arith)

-- the first digit that is cut, and the rest of them
number_of-cons : (digit : ℕ) (digits : List ℕ) → number_of (digit ∷ digits) ≡ (digit - 48) * 10 ^ length digits + number_of digits
number_of-cons digit digits = with_digits-is (10 * 0 + (digit - 48)) digits ∙ ap (λ (x : ℕ). x * 10 ^ length digits + number_of digits) (simple (digit - 48))
  where
    simple : (x : ℕ) → 10 * 0 + x ≡ x
    simple x = omega arith

half_up : (x p v q : ℕ) → 5 ≤ x → q ≡ p * 10 → q ≤ 2 * (x * p + v)
half_up x p v q five e = let times : 5 * p ≤ x * p = mul-le-mul_right p five in omega (arith, e, times)

half_down : (x p v q : ℕ) → x < 5 → v < p → q ≡ p * 10 → 2 * (x * p + v) < q
half_down x p v q five below e =
    let four : x ≤ 4 = omega (arith, five) in
    let times : x * p ≤ 4 * p = mul-le-mul_right p four in
    omega (arith, e, times, below)

-- what a cut before a digit leaves: one more from 5 on
pub record IsCut (front : ℕ) (digit : ℕ) (rounded : ℕ) : Type 0 where
  pub up : 53 ≤ digit → rounded ≡ front + 1
  pub down : digit < 53 → rounded ≡ front

pub front-le_cut : (front digit rounded : ℕ) → IsCut front digit rounded → front ≤ rounded
front-le_cut front digit rounded cut = ⊎_elim (λ (h : digit < 53). omega (arith, cut.down h)) (λ (h : 53 ≤ digit). omega (arith, cut.up h)) (cases_lt digit 53)

cut_before : (front : List ℕ) (digit : ℕ) (digits : List ℕ) → AreDigits (digit ∷ digits) → IsCut (number_of front) digit (near_abs (number_of (front ++ digit ∷ digits)) (10 ^ suc (length digits)))
cut_before front digit digits are =
    let whole : number_of (front ++ digit ∷ digits) ≡ number_of front * 10 ^ suc (length digits) + number_of (digit ∷ digits) = with_digits-append 0 front (digit ∷ digits) ∙ with_digits-is (number_of front) (digit ∷ digits) in
    let cut = ap (λ (m : ℕ). near_abs m (10 ^ suc (length digits))) whole in
    let rest = number_of-lt digits (All-tail IsAsciiDigit digit digits are) in
    let ten = pow-suc 10 (length digits) in
    record {
      up = λ five. cut ∙ near_up (number_of front) (10 ^ suc (length digits)) (number_of (digit ∷ digits)) (number_of-lt (digit ∷ digits) are) (rw (number_of-cons digit digits) (half_up (digit - 48) (10 ^ length digits) (number_of digits) (10 ^ suc (length digits)) (omega (arith, five)) ten));
      down = λ five. cut ∙ near_down (number_of front) (10 ^ suc (length digits)) (number_of (digit ∷ digits)) (rw (number_of-cons digit digits) (half_down (digit - 48) (10 ^ length digits) (number_of digits) (10 ^ suc (length digits)) (omega (arith, five)) rest ten));
    }

-- a cut of so many digits from the end
pub cut_is : (digits : List ℕ) (cut : ℕ) → 1 ≤ cut → cut ≤ length digits → AreDigits digits
    → IsCut (number_of (take (length digits - cut) digits)) (get_or digits (length digits - cut) 0) (near_abs (number_of digits) (10 ^ cut))
cut_is digits cut one within are =
    let mid = length digits - cut in
    let after = drop (mid + 1) digits in
    let here : drop mid digits ≡ get_or digits mid 0 ∷ after = drop_more digits mid 0 (omega arith) in
    let count : suc (length after) ≡ cut = omega (arith, length-drop (mid + 1) digits) in
    let whole : take mid digits ++ get_or digits mid 0 ∷ after ≡ digits = ap (λ t. take mid digits ++ t) (sym here) ∙ take-append-drop mid digits in
    let digital : AreDigits (get_or digits mid 0 ∷ after) = subst AreDigits here (All-drop IsAsciiDigit mid digits are) in
    let P : List ℕ → ℕ → Type 0 = λ ds k. IsCut (number_of (take mid digits)) (get_or digits mid 0) (near_abs (number_of ds) (10 ^ k)) in
    subst (λ ds. P ds cut) whole (subst (P (take mid digits ++ get_or digits mid 0 ∷ after)) count (cut_before (take mid digits) (get_or digits mid 0) after digital))

-- more digits than there are
pub cut_all : (digits : List ℕ) (cut : ℕ) → length digits < cut → AreDigits digits → near_abs (number_of digits) (10 ^ cut) ≡ 0
cut_all digits cut far are =
    let small = number_of-lt digits are in
    let power : 10 ^ suc (length digits) ≤ 10 ^ cut = pow-le-pow_right (lit< tt) far in
    let half : 2 * number_of digits < 10 ^ cut = omega (arith, small, power, pow-suc 10 (length digits)) in
    ap (λ (m : ℕ). near_abs m (10 ^ cut)) (simple (number_of digits) (10 ^ cut)) ∙ near_down 0 (10 ^ cut) (number_of digits) half
  where
    simple : (v q : ℕ) → v ≡ 0 * q + v
    simple v q = omega arith
