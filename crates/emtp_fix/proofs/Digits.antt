-- Digits behind the point.
use Rattle.std.proofs.Common.{◌≡◌, ◌≢◌, ℕ, zero, suc, ◌+◌, ◌-◌, ◌*◌, ◌/◌, ◌%◌, ◌^◌, ◌<◌, ◌≤◌, ◌==◌, true, if◌then◌else◌, List, [], ◌∷◌, ◌++◌, length, refl, ap, ◌∙◌, inl, inr, arith, pow-suc, sub-one, append_assoc}
use Rattle.std.specs.Char.{is_ascii_digit}
use Rattle.std.specs.List.{list_all}
use Rattle.std.proofs.lemmas.Bool.Decides.{nat_tests}
use Rattle.std.proofs.Math.Nat.{div-lt_iff_lt-mul}
use Rattle.std.proofs.lemmas.Bool.{cases_eq}
use Rattle.std.proofs.Math.Nat.{mod-lt, div-add-mod'}
use Rattle.emtp_fix.specs.Decimal.{fraction, point_fraction}
use Rattle.emtp_fix.specs.held.Decimal.{written, last_digit}

pub power-above : (n : ℕ) → 0 < 10 ^ n
power-above zero = omega arith
power-above (suc n) = omega (arith, pow-suc 10 n, power-above n)

pub fraction-none : (places : ℕ) → fraction places 0 ≡ []
unfolding fraction
fraction-none zero = refl
fraction-none (suc places) = refl

-- where a digit is left, there is a place for it
pub place-some : (places left : ℕ) → left < 10 ^ places → left ≢ 0 → 0 < places
place-some zero left less some = absurd (some (omega arith))
place-some (suc places) left less some = omega arith

pub unit-next : (places : ℕ) → 0 < places → 10 ^ places / 10 ≡ 10 ^ (places - 1)
unit-next zero some = absurd (omega arith)
unit-next (suc places) some = rw sub-one (omega (arith, pow-suc 10 places))

pub digit-less : (places left : ℕ) → 0 < places → left < 10 ^ places → left / 10 ^ (places - 1) < 10
digit-less zero left some less = absurd (omega arith)
digit-less (suc places) left some less =
    let below : left < 10 * 10 ^ places = omega (arith, pow-suc 10 places) in
    rw sub-one ((div-lt_iff_lt-mul (power-above places)).1 below)

pub choose_rest : (n : ℕ) (xs ys : List ℕ) → n ≢ 0 → (if n == 0 then xs else ys) ≡ ys
choose_rest n xs ys some = grind (arith, nat_tests)

-- the first digit, and those behind it
pub fraction-digit : (places left : ℕ) → 0 < places → left ≢ 0 → fraction places left ≡ (48 + left / 10 ^ (places - 1)) ∷ fraction (places - 1) (left % 10 ^ (places - 1))
unfolding fraction
fraction-digit zero left some digit = absurd (omega arith)
fraction-digit (suc places) left some digit = rw sub-one (choose_rest left [] _ digit)

-- one more digit stands, and one less is to come
pub fraction-step : (before : List ℕ) (places left : ℕ) → 0 < places → left ≢ 0
    → (before ++ (48 + left / 10 ^ (places - 1)) ∷ []) ++ fraction (places - 1) (left % 10 ^ (places - 1)) ≡ before ++ fraction places left
fraction-step before places left some digit =
    append_assoc before ((48 + left / 10 ^ (places - 1)) ∷ []) (fraction (places - 1) (left % 10 ^ (places - 1)))
    ∙ ap (λ (digits : List ℕ). before ++ digits) (rw (fraction-digit places left some digit) refl)

pub point_fraction-none : (places r : ℕ) → r ≡ 0 → point_fraction places r ≡ []
point_fraction-none places r e = grind (arith, nat_tests)

pub point_fraction-some : (places r : ℕ) → r ≢ 0 → point_fraction places r ≡ 46 ∷ fraction places r
point_fraction-some places r e = choose_rest r [] _ e

-- ---- read back

no_places : (r : ℕ) → fraction zero r ≡ []
unfolding fraction
no_places r = refl

pub digit_next : (places r : ℕ) → r ≢ 0 → fraction (suc places) r ≡ (48 + r / 10 ^ places) ∷ fraction places (r % 10 ^ places)
digit_next places r some = rw sub-one at (fraction-digit (suc places) r (omega arith) some)

-- the digits write the number that they were made of
pub fraction-written : (places r : ℕ) → r < 10 ^ places → written places (fraction places r) ≡ r
unfolding written
fraction-written zero r less = omega arith
fraction-written (suc places) r less = elim (cases_eq r 0) [
  | inl none ↦ rw (none, fraction-none (suc places)) refl
  | inr some ↦
      let rest : written places (fraction places (r % 10 ^ places)) ≡ r % 10 ^ places = fraction-written places (r % 10 ^ places) (mod-lt r (power-above places)) in
      let digit : 48 + r / 10 ^ places - 48 ≡ r / 10 ^ places = omega arith in
      rw (digit_next places r some, rest, digit) (div-add-mod' r (10 ^ places))
]

-- each of them is a digit
pub fraction-digits : (places r : ℕ) → r < 10 ^ places → list_all is_ascii_digit (fraction places r) ≡ true
fraction-digits zero r less = rw (no_places r) refl
fraction-digits (suc places) r less = elim (cases_eq r 0) [
  | inl none ↦ rw (none, fraction-none (suc places)) refl
  | inr some ↦
      let digit : r / 10 ^ places < 10 = rw sub-one at (digit-less (suc places) r (omega arith) less) in
      rw (digit_next places r some, is_digit (r / 10 ^ places) digit) (fraction-digits places (r % 10 ^ places) (mod-lt r (power-above places)))
]
  where
    is_digit : (d : ℕ) → d < 10 → is_ascii_digit (48 + d) ≡ true
    is_digit d less = grind (arith, nat_tests)

-- and there are no more than there are places
pub fraction-short : (places r : ℕ) → length (fraction places r) ≤ places
fraction-short zero r = rw (no_places r) (omega arith)
fraction-short (suc places) r = elim (cases_eq r 0) [
  | inl none ↦ rw (none, fraction-none (suc places)) (omega arith)
  | inr some ↦ rw (digit_next places r some) (omega (arith, fraction-short places (r % 10 ^ places)))
]

-- and the last of them isn't 0
pub fraction-last : (places r other : ℕ) → r < 10 ^ places → (r ≡ 0 → other ≢ 48) → last_digit other (fraction places r) ≢ 48
fraction-last zero r other less first = rw (no_places r) (first (omega arith))
fraction-last (suc places) r other less first = elim (cases_eq r 0) [
  | inl none ↦ rw (none, fraction-none (suc places)) (first none)
  | inr some ↦
      let next = fraction-last places (r % 10 ^ places) (48 + r / 10 ^ places) (mod-lt r (power-above places)) (λ whole e. some (none places r whole (omega (arith, e)))) in
      rw (digit_next places r some) next
]
  where
    none : (places r : ℕ) → r % 10 ^ places ≡ 0 → r / 10 ^ places ≡ 0 → r ≡ 0
    none places r whole front = let is = rw (whole, front) at (div-add-mod' r (10 ^ places)) in omega (arith, is)
