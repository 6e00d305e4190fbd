-- The multiplier is the least step that holds a magnitude.
use Rattle.std.proofs.Common.{◌≡◌, ◌⊎◌, inl, inr, ℕ, zero, suc, ◌+◌, ◌-◌, ◌*◌, ◌^◌, ◌<◌, ◌≤◌, Bool, true, false, cond, nat_le, Option, Some, None, unwrap_or, add-one, add-zero, arith, refl, sym, ◌∙◌, ap, subst}
use Rattle.std.proofs.Math.Nat.{pow-le-pow_right, one-le-pow, pow-suc}
use Rattle.std.proofs.lemmas.Bool.{cases_order}
use Rattle.emtp_comtrade.specs.Multiplier.{multiplier_in, multiplier_from, multiplier_of}
use Rattle.emtp_comtrade.specs.held.Multiplier.{IsOneTwoFive, IsMultiplier}
use Rattle.emtp_comtrade.specs.declared.limit.TheConstants.{LARGEST_MULTIPLIER, LARGEST_POWER}

-- ---- the search

powers-left : (power powers greatest : ℕ) → powers ≡ 15 - power → power < 15
    → multiplier_from powers power greatest ≡ unwrap_or (multiplier_in (10 ^ power) greatest) (multiplier_from (15 - (power + 1)) (power + 1) greatest)
unfolding multiplier_from
powers-left power zero greatest is less = absurd (omega arith)
powers-left power (suc powers) greatest is less =
    let left : powers ≡ 15 - (power + 1) = omega arith in
    ap (λ (n : ℕ). unwrap_or (multiplier_in (10 ^ power) greatest) (multiplier_from n (power + 1) greatest)) left

pub multiplier_from-here : (power greatest multiplier : ℕ) (found : Option ℕ) → power < 15 → found ≡ multiplier_in (10 ^ power) greatest → found ≡ Some multiplier
    → multiplier_from (15 - power) power greatest ≡ multiplier
multiplier_from-here power greatest multiplier found less is some =
    powers-left power (15 - power) greatest refl less
    ∙ ap (λ (o : Option ℕ). unwrap_or o (multiplier_from (15 - (power + 1)) (power + 1) greatest)) (sym is ∙ some)

pub multiplier_from-next : (power greatest : ℕ) (found : Option ℕ) → power < 15 → found ≡ multiplier_in (10 ^ power) greatest → found ≡ None
    → multiplier_from (15 - power) power greatest ≡ multiplier_from (15 - (power + 1)) (power + 1) greatest
multiplier_from-next power greatest found less is none =
    powers-left power (15 - power) greatest refl less
    ∙ ap (λ (o : Option ℕ). unwrap_or o (multiplier_from (15 - (power + 1)) (power + 1) greatest)) (sym is ∙ none)

pub multiplier_of-start : (greatest : ℕ) → multiplier_of greatest ≡ multiplier_from 15 0 greatest
unfolding multiplier_of
multiplier_of-start greatest = refl

pub multiplier_from-end : (power greatest : ℕ) → 15 ≤ power → power ≤ 15 → multiplier_from (15 - power) power greatest ≡ LARGEST_MULTIPLIER
unfolding multiplier_from
multiplier_from-end power greatest least most =
    let is : power ≡ 15 = omega arith in
    ap (λ (n : ℕ). multiplier_from (15 - n) n greatest) is

pub power-bound : (power : ℕ) → power ≤ 14 → 10 ^ power ≤ LARGEST_POWER
power-bound power few = pow-le-pow_right {n = 10} (omega arith) few

pub ruleset searching = (multiplier_of-start, multiplier_from-here, multiplier_from-next, multiplier_from-end)

pub ruleset powers = (power-bound)

-- ---- the least step

-- a step lies below those of a power of ten, is one of them, or lies above
data Beside (power other : ℕ) : Type 0 where
  below : (p : ℕ) → p < power → other ≤ 5 * 10 ^ p → Beside power other
  one : other ≡ 10 ^ power → Beside power other
  two : other ≡ 2 * 10 ^ power → Beside power other
  five : other ≡ 5 * 10 ^ power → Beside power other
  above : 10 * 10 ^ power ≤ other → Beside power other

tenfold : (power p other : ℕ) → power < p → 10 ^ p ≤ other → 10 * 10 ^ power ≤ other
tenfold power p other less le =
    let next : 10 ^ (power + 1) ≤ 10 ^ p = pow-le-pow_right {n = 10} (omega arith) (omega arith) in
    let ten : 10 ^ (power + 1) ≡ 10 * 10 ^ power = omega (arith, ap (λ (n : ℕ). 10 ^ n) (add-one power), pow-suc 10 power) in
    omega (arith, next, ten)

beside_at : (power p other : ℕ) → (other ≡ 10 ^ p) ⊎ (other ≡ 2 * 10 ^ p) ⊎ (other ≡ 5 * 10 ^ p)
    → (p ≡ power) ⊎ ((p < power) ⊎ (power < p)) → Beside power other
beside_at power p other (inl value) (inl same) = one (value ∙ ap (λ (n : ℕ). 10 ^ n) same)
beside_at power p other (inr (inl value)) (inl same) = two (value ∙ ap (λ (n : ℕ). 2 * 10 ^ n) same)
beside_at power p other (inr (inr value)) (inl same) = five (value ∙ ap (λ (n : ℕ). 5 * 10 ^ n) same)
beside_at power p other (inl value) (inr (inl less)) = below p less (omega arith)
beside_at power p other (inr (inl value)) (inr (inl less)) = below p less (omega arith)
beside_at power p other (inr (inr value)) (inr (inl less)) = below p less (omega arith)
beside_at power p other (inl value) (inr (inr more)) = above (tenfold power p other more (omega arith))
beside_at power p other (inr (inl value)) (inr (inr more)) = above (tenfold power p other more (omega arith))
beside_at power p other (inr (inr value)) (inr (inr more)) = above (tenfold power p other more (omega arith))

value_of : (other p factor : ℕ) → (factor ≡ 1) ⊎ (factor ≡ 2) ⊎ (factor ≡ 5) → other ≡ factor * 10 ^ p
    → (other ≡ 10 ^ p) ⊎ (other ≡ 2 * 10 ^ p) ⊎ (other ≡ 5 * 10 ^ p)
value_of other p factor (inl is) value = inl (value ∙ ap (λ (n : ℕ). n * 10 ^ p) is ∙ omega arith)
value_of other p factor (inr (inl is)) value = inr (inl (value ∙ ap (λ (n : ℕ). n * 10 ^ p) is))
value_of other p factor (inr (inr is)) value = inr (inr (value ∙ ap (λ (n : ℕ). n * 10 ^ p) is))

beside : (power other : ℕ) → IsOneTwoFive other → Beside power other
beside power other step =
    beside_at power step.power other (value_of other step.power step.factor step.one_two_five step.value) (cases_order step.power power)

-- the steps of the powers below hold less
pub record HoldsMore (power greatest : ℕ) : Type 0 where
  pub more : (p : ℕ) → p < power → 32767 * (5 * 10 ^ p) < greatest

is_one : (power greatest : ℕ) → HoldsMore power greatest → greatest ≤ 32767 * 10 ^ power → IsMultiplier greatest (10 ^ power)
is_one power greatest more holds = record {
  step = record { power = power; factor = 1; one_two_five = inl refl; value = omega arith };
  holds = holds;
  least = λ other step within. elim (beside power other step) as (λ _. 10 ^ power ≤ other) [
    | below p less le ↦ absurd (omega (arith, more.more p less))
    | one is ↦ omega arith
    | two is ↦ omega arith
    | five is ↦ omega arith
    | above le ↦ omega arith
  ];
}

is_two : (power greatest : ℕ) → HoldsMore power greatest → 32767 * 10 ^ power < greatest → greatest ≤ 32767 * (2 * 10 ^ power) → IsMultiplier greatest (2 * 10 ^ power)
is_two power greatest more less holds = record {
  step = record { power = power; factor = 2; one_two_five = inr (inl refl); value = refl };
  holds = holds;
  least = λ other step within. elim (beside power other step) as (λ _. 2 * 10 ^ power ≤ other) [
    | below p less le ↦ absurd (omega (arith, more.more p less))
    | one is ↦ absurd (omega arith)
    | two is ↦ omega arith
    | five is ↦ omega arith
    | above le ↦ omega arith
  ];
}

is_five : (power greatest : ℕ) → HoldsMore power greatest → 32767 * (2 * 10 ^ power) < greatest → greatest ≤ 32767 * (5 * 10 ^ power) → IsMultiplier greatest (5 * 10 ^ power)
is_five power greatest more less holds = record {
  step = record { power = power; factor = 5; one_two_five = inr (inr refl); value = refl };
  holds = holds;
  least = λ other step within. elim (beside power other step) as (λ _. 5 * 10 ^ power ≤ other) [
    | below p less le ↦ absurd (omega (arith, more.more p less))
    | one is ↦ absurd (omega arith)
    | two is ↦ absurd (omega arith)
    | five is ↦ omega arith
    | above le ↦ omega arith
  ];
}

-- the first step in a power of ten that holds the magnitude, or the one that is found in the next powers
picked : (power greatest next : ℕ) (a b c : Bool) → HoldsMore power greatest
    → nat_le greatest (32767 * 10 ^ power) ≡ a
    → nat_le greatest (32767 * (2 * 10 ^ power)) ≡ b
    → nat_le greatest (32767 * (5 * 10 ^ power)) ≡ c
    → (32767 * (5 * 10 ^ power) < greatest → IsMultiplier greatest next)
    → IsMultiplier greatest (unwrap_or (cond a (Some (10 ^ power)) (cond b (Some (2 * 10 ^ power)) (cond c (Some (5 * 10 ^ power)) None))) next)
picked power greatest next true b c more holds_one holds_two holds_five rest = is_one power greatest more (grind arith)
picked power greatest next false true c more holds_one holds_two holds_five rest = is_two power greatest more (grind arith) (grind arith)
picked power greatest next false false true more holds_one holds_two holds_five rest = is_five power greatest more (grind arith) (grind arith)
picked power greatest next false false false more holds_one holds_two holds_five rest = rest (grind arith)

more_next : (power greatest : ℕ) → HoldsMore power greatest → 32767 * (5 * 10 ^ power) < greatest → HoldsMore (power + 1) greatest
more_next power greatest more less = record {
  more = λ p within. elim (cases_order p power) as (λ _. 32767 * (5 * 10 ^ p) < greatest) [
    | inl same ↦ omega (arith, less, ap (λ (n : ℕ). 10 ^ n) same)
    | inr order ↦ elim order as (λ _. 32767 * (5 * 10 ^ p) < greatest) [ inl less' ↦ more.more p less' | inr more' ↦ absurd (omega arith) ]
  ];
}

IsMultiplier-multiplier_from : (powers power greatest : ℕ) → HoldsMore power greatest → greatest ≤ 32767 * (5 * 10 ^ (power + powers))
    → IsMultiplier greatest (multiplier_from (suc powers) power greatest)
unfolding multiplier_from
IsMultiplier-multiplier_from zero power greatest more holds =
    picked power greatest (multiplier_from 0 (power + 1) greatest) (nat_le greatest (32767 * 10 ^ power)) (nat_le greatest (32767 * (2 * 10 ^ power))) (nat_le greatest (32767 * (5 * 10 ^ power))) more refl refl refl
    (λ less. absurd (omega (arith, less, holds, ap (λ (n : ℕ). 10 ^ n) (add-zero power))))
IsMultiplier-multiplier_from (suc powers) power greatest more holds =
    let same : power + suc powers ≡ (power + 1) + powers = omega arith in
    let left : greatest ≤ 32767 * (5 * 10 ^ ((power + 1) + powers)) = subst (λ (n : ℕ). greatest ≤ 32767 * (5 * 10 ^ n)) same holds in
    picked power greatest (multiplier_from (suc powers) (power + 1) greatest) (nat_le greatest (32767 * 10 ^ power)) (nat_le greatest (32767 * (2 * 10 ^ power))) (nat_le greatest (32767 * (5 * 10 ^ power))) more refl refl refl
    (λ less. IsMultiplier-multiplier_from powers (power + 1) greatest (more_next power greatest more less) left)

-- the multiplier is the least step that holds the magnitude
pub IsMultiplier-multiplier_of : (greatest : ℕ) → greatest ≤ 2 ^ 63 → IsMultiplier greatest (multiplier_of greatest)
unfolding multiplier_of
IsMultiplier-multiplier_of greatest small =
    let none : HoldsMore 0 greatest = record { more = λ p less. absurd (omega arith) } in
    IsMultiplier-multiplier_from 14 0 greatest none (omega (arith, small))

step_positive : (step power factor : ℕ) → (factor ≡ 1) ⊎ (factor ≡ 2) ⊎ (factor ≡ 5) → step ≡ factor * 10 ^ power → 0 < step
step_positive step power factor kind value =
    elim (value_of step power factor kind value) as (λ _. 0 < step) [
      | inl is ↦ omega (arith, one-le-pow power 10 (omega arith), is)
      | inr other ↦ elim other as (λ _. 0 < step) [
        | inl is ↦ omega (arith, one-le-pow power 10 (omega arith), is)
        | inr is ↦ omega (arith, one-le-pow power 10 (omega arith), is)
      ]
    ]

pub multiplier-positive : (greatest multiplier : ℕ) → IsMultiplier greatest multiplier → 0 < multiplier
multiplier-positive greatest multiplier is = step_positive multiplier is.step.power is.step.factor is.step.one_two_five is.step.value
