-- The coefficients of a block: sums, quotients, and what a block keeps.
use Rattle.emtp_fix.specs.declared.limit.TheConstants.{LARGEST_COEFFICIENT}
use Rattle.std.proofs.Common.{◌≡◌, ◌∙◌, sym, ap, subst, refl, ℕ, zero, suc, ◌+◌, ◌*◌, ◌^◌, ◌≤◌, ℤ, pos, ◌*ℤ◌, unsigned_abs, Bool, true, false, Option, Some, None, All, inl, inr, add-one, arith}
use Rattle.std.proofs.lemmas.Bool.{cases_lt}
use Rattle.std.proofs.lemmas.Bool.Decides.{nat_tests}
use Rattle.std.specs.Prelude.{IfNone, nat_lt, ◌≢◌}
use Rattle.emtp_card.specs.declared.reason.Bad.{Bad}
use Rattle.emtp_case.specs.Control.{coefficient_sum, power_of, quotient_of}
use Rattle.emtp_case.specs.Sums.{sum_upto}
use Rattle.emtp_fix.specs.Rounding.{near}
use Rattle.emtp_fix.proofs.Quotients.{near-exact}
use Rattle.emtp_netcards.specs.held.Fields.{IsSmall}
use Rattle.emtp_walk.proofs.NoBad.{nothing_before}
use Rattle.emtp_walk.specs.Answer.{first_bad}
use Rattle.emtp_walk.specs.Coefficients.{divided_by, gain_bad, is_large, quotients_bad, range_bad}
use Rattle.emtp_walk.specs.held.Coefficients.{IsBlockDue, IsBlockEntry, transfer}
use Rattle.emtp_taccards.specs.held.PolynomialCard.{IsPolynomial}
use Rattle.emtp_walk.specs.declared.control_cards.BlockEntry.{BlockEntry}

-- ---- tests

pub not_large : (x : ℤ) → is_large x ≡ false → unsigned_abs x ≤ LARGEST_COEFFICIENT
not_large x h = less (10 ^ 18) (unsigned_abs x) h
  where
    less : (m n : ℕ) → nat_lt m n ≡ false → n ≤ m
    less m n h = grind (arith, nat_tests)

pub range_none : (line column : ℕ) (is : Bool) → range_bad line column is ≡ None → is ≡ false
range_none line column true h = absurd (cc)
range_none line column false h = refl

-- ---- the first quotient that is too large

abbrev pub bad_of : ℕ → (ℕ → ℤ) → ℕ → Option Bad
bad_of line f k = range_bad line (10 * k + 1) (is_large (f k))

-- among those of the powers below one
abbrev pub bad_below : ℕ → (ℕ → ℤ) → ℕ → Option Bad
bad_below line f zero = None
bad_below line f (suc n) = first_bad (bad_below line f n) (bad_of line f n)

pub bad_below-more : (line : ℕ) (f : ℕ → ℤ) (n : ℕ) → bad_below line f n ≡ None → bad_below line f (n + 1) ≡ bad_of line f n
bad_below-more line f n h = rw add-one (ap (λ b. first_bad b (bad_of line f n)) h)

pub bad_upto-below : (line : ℕ) (f : ℕ → ℤ) (n : ℕ) → bad_below line f (n + 1) ≡ quotients_bad line f n
bad_upto-below line f zero = refl
bad_upto-below line f (suc n) =
    let column : 10 * suc n + 1 ≡ 10 * (n + 1) + 1 = omega arith in
    next (suc n) ∙ ap (λ b. first_bad b (bad_of line f (suc n))) (sym (next n) ∙ bad_upto-below line f n)
    ∙ ap (λ c. first_bad (quotients_bad line f n) (range_bad line c (is_large (f (suc n))))) column
  where
    next : (k : ℕ) → bad_below line f (k + 1) ≡ bad_below line f (suc k)
    next k = rw add-one refl

pub bad_stays : (line : ℕ) (f : ℕ → ℤ) (k n : ℕ) (bad : Bad) → k ≤ n → bad_below line f k ≡ Some bad → bad_below line f n ≡ Some bad
bad_stays line f k zero bad l h = let same : k ≡ 0 = omega arith in subst (λ j. bad_below line f j ≡ Some bad) same h
bad_stays line f k (suc n) bad l h = elim (cases_lt n k) [
  | inl past ↦ let same : k ≡ suc n = omega arith in subst (λ j. bad_below line f j ≡ Some bad) same h
  | inr within ↦ ap (λ b. first_bad b (bad_of line f n)) (bad_stays line f k n bad within h)
]

pub quotients_small : (line : ℕ) (f : ℕ → ℤ) (n k : ℕ) → quotients_bad line f n ≡ None → k ≤ n → unsigned_abs (f k) ≤ LARGEST_COEFFICIENT
quotients_small line f zero k h l = let same : k ≡ 0 = omega arith in subst (λ j. unsigned_abs (f j) ≤ LARGEST_COEFFICIENT) (sym same) (not_large (f 0) (range_none line 1 (is_large (f 0)) h))
quotients_small line f (suc n) k h l =
    let both = nothing_before (quotients_bad line f n) (range_bad line (10 * (n + 1) + 1) (is_large (f (suc n)))) h in
    elim (cases_lt k (suc n)) [
      | inl less ↦ quotients_small line f n k both.0 (omega (arith, less))
      | inr past ↦ let same : k ≡ suc n = omega arith in subst (λ j. unsigned_abs (f j) ≤ LARGEST_COEFFICIENT) (sym same) (not_large (f (suc n)) (range_none line (10 * (n + 1) + 1) (is_large (f (suc n))) both.1))
    ]

-- ---- what a block keeps

within : (dt : ℤ) (e : BlockEntry) (n : ℕ) → IsSmall e.card.gain → gain_bad e.card.line e.card.gain (sum_upto n (quotient_of dt e.top (sum_upto e.card.order (power_of dt e.bottom)))) ≡ None
    → unsigned_abs (near (e.card.gain *ℤ coefficient_sum dt (transfer e) n) (pos (10 ^ 12))) ≤ LARGEST_COEFFICIENT
within dt e zero small h = rw (near-exact e.card.gain (10 ^ 12) (omega arith)) small
within dt e (suc n) small h =
    let k = near (e.card.gain *ℤ sum_upto (suc n) (quotient_of dt e.top (sum_upto e.card.order (power_of dt e.bottom)))) (pos (10 ^ 12)) in
    not_large k (range_none e.card.line 51 (is_large k) h)

block_kept : (dt : ℤ) (e : BlockEntry) (top bottom : ℕ) → (sum_upto e.card.order (power_of dt e.bottom) ≢ pos 0) → IsBlockDue e.card → IsPolynomial dt e.card.order e.top → IsPolynomial dt e.card.order e.bottom → divided_by dt e top bottom (sum_upto e.card.order (power_of dt e.bottom)) ≡ None → IsBlockEntry dt e
block_kept dt e top bottom some due above below h =
    let divisor = sum_upto e.card.order (power_of dt e.bottom) in
    let order = e.card.order in
    let lower = quotients_bad bottom (quotient_of dt e.bottom divisor) order in
    let upper = quotients_bad top (quotient_of dt e.top divisor) order in
    let gain = gain_bad e.card.line e.card.gain (sum_upto order (quotient_of dt e.top divisor)) in
    let first = nothing_before lower (first_bad upper gain) h in
    let second = nothing_before upper gain first.1 in
    record {
      card = due;
      top = above.small;
      bottom = below.small;
      coefficients = λ more. record {
        bottom_way = below.way;
        top_way = above.way;
        divisor = some;
        denominators = λ j l. quotients_small bottom (quotient_of dt e.bottom divisor) order j first.0 l;
        numerators = λ j l. quotients_small top (quotient_of dt e.top divisor) order j second.0 l;
      };
      within_step = within dt e order due.numbers.gain second.1;
    }

pub if_none : (P : Type 0) (r : Option Bad) → (r ≡ None → P) → IfNone r P
if_none P None h = h refl
if_none P (Some bad) h = tt

-- the sum is the divisor
pub block_divided : (dt : ℤ) (e : BlockEntry) (top bottom : ℕ) (divisor : ℤ) → divisor ≡ sum_upto e.card.order (power_of dt e.bottom) → divisor ≢ pos 0 → IsBlockDue e.card → IsPolynomial dt e.card.order e.top → IsPolynomial dt e.card.order e.bottom → divided_by dt e top bottom divisor ≡ None → IsBlockEntry dt e
block_divided dt e top bottom divisor is some due above below h =
    block_kept dt e top bottom (λ z. some (is ∙ z)) due above below (subst (λ d. divided_by dt e top bottom d ≡ None) is h)

-- a block of order 0 has no coefficients
pub plain_block : (dt : ℤ) (e : BlockEntry) → IsBlockDue e.card → e.card.order ≡ 0 → All IsSmall e.top → All IsSmall e.bottom → IsBlockEntry dt e
plain_block dt e due none top bottom = record {
  card = due;
  top = top;
  bottom = bottom;
  coefficients = λ some. absurd (omega (arith, some, none));
  within_step = subst (λ n. unsigned_abs (near (e.card.gain *ℤ coefficient_sum dt (transfer e) n) (pos (10 ^ 12))) ≤ LARGEST_COEFFICIENT) (sym none) (rw (near-exact e.card.gain (10 ^ 12) (omega arith)) due.numbers.gain);
}
