-- The coefficients of a card: their way through the bilinear rule, and what a card keeps that was read.
use Rattle.std.proofs.Common.{◌≡◌, ◌∙◌, sym, ap, subst, refl, ℕ, zero, suc, ◌+◌, ◌*◌, ◌^◌, ◌<◌, ◌≤◌, ℤ, pos, ◌*ℤ◌, unsigned_abs, Bool, true, false, List, [], ◌∷◌, Result, Ok, Err, All, inl, inr, arith}
use Rattle.std.proofs.lemmas.Bool.{cases_lt}
use Rattle.std.proofs.lemmas.Bool.Decides.{nat_tests}
use Rattle.std.specs.Prelude.{IfOk, if◌then◌else◌, nat_le, slice_index_or, ◌&&◌}
use Rattle.emtp_card.specs.declared.fault.Fault.{Fault}
use Rattle.emtp_card.specs.declared.reason.Bad.{Bad}
use Rattle.emtp_card.specs.declared.reason.Why.TheVariants.{OutOfUnitRange}
use Rattle.emtp_case.specs.Control.{bilinear}
use Rattle.emtp_case.specs.held.Control.{HasWay}
use Rattle.emtp_fix.specs.Rounding.{near}
use Rattle.emtp_fix.proofs.Quotients.{near-zero_times}
use Rattle.emtp_netcards.proofs.BranchRanges.{both_true}
use Rattle.emtp_netcards.proofs.Readings.{each_of, made_of}
use Rattle.emtp_netcards.specs.Reading.{both}
use Rattle.emtp_netcards.specs.held.Fields.{IsSmall}
use Rattle.emtp_taccards.specs.PolynomialCard.{coefficient_field, coefficients, four_of, pair_of, stays, taken_by, taken_field}
use Rattle.emtp_taccards.specs.held.PolynomialCard.{IsPolynomial}

-- ---- the way through the bilinear rule

le_true : (m n : ℕ) → nat_le m n ≡ true → m ≤ n
le_true m n h = grind (arith, nat_tests)

stays_way : (dt x : ℤ) (n : ℕ) → IsSmall x → stays dt x n ≡ true → HasWay dt x n
stays_way dt x zero small h i l = let same : i ≡ 0 = omega arith in subst (λ j. unsigned_abs (bilinear dt x j) ≤ 8 * 10 ^ 25) (sym same) (omega (arith, small))
stays_way dt x (suc n) small h i l =
    let both = both_true (stays dt x n) (nat_le (unsigned_abs (bilinear dt x (suc n))) (8 * 10 ^ 25)) h in
    elim (cases_lt i (suc n)) [
      | inl less ↦ stays_way dt x n small both.0 i (omega (arith, less))
      | inr past ↦ let same : i ≡ suc n = omega arith in subst (λ j. unsigned_abs (bilinear dt x j) ≤ 8 * 10 ^ 25) (sym same) (le_true (unsigned_abs (bilinear dt x (suc n))) (8 * 10 ^ 25) both.1)
    ]

-- once it doesn't stay, it never does
left_way : (dt x : ℤ) (k n : ℕ) → k ≤ n → stays dt x k ≡ false → stays dt x n ≡ false
left_way dt x k zero l h = let same : k ≡ 0 = omega arith in subst (λ j. stays dt x j ≡ false) same h
left_way dt x k (suc n) l h = elim (cases_lt n k) [
  | inl past ↦ let same : k ≡ suc n = omega arith in subst (λ j. stays dt x j ≡ false) same h
  | inr within ↦ ap (λ b. b && nat_le (unsigned_abs (bilinear dt x (suc n))) (8 * 10 ^ 25)) (left_way dt x k n within h)
]

-- where it leaves the range, the coefficient doesn't stay
pub leaves : (dt x : ℤ) (i times : ℕ) (y : ℤ) → y ≡ bilinear dt x (suc i) → 8 * 10 ^ 25 < unsigned_abs y → i < times → stays dt x times ≡ false
leaves dt x i times y is large l = left_way dt x (suc i) times (omega (arith, l)) (here (stays dt x i) (unsigned_abs (bilinear dt x (suc i))) (rw (sym is) large))
  where
    here : (b : Bool) (n : ℕ) → 8 * 10 ^ 25 < n → (b && nat_le n (8 * 10 ^ 25)) ≡ false
    here true n h = grind (arith, nat_tests)
    here false n h = refl

-- 0 stays 0
still_zero : (dt : ℤ) (n : ℕ) → bilinear dt (pos 0) n ≡ pos 0
still_zero dt zero = refl
still_zero dt (suc n) = ap (λ (p : ℤ). near (p *ℤ pos (2 * 10 ^ 12)) dt) (still_zero dt n) ∙ near-zero_times (pos (2 * 10 ^ 12)) dt

zero_way : (dt : ℤ) (n : ℕ) → HasWay dt (pos 0) n
zero_way dt n i l = subst (λ (p : ℤ). unsigned_abs p ≤ 8 * 10 ^ 25) (sym (still_zero dt i)) (omega arith)

-- ---- the coefficients that were read

-- what holds of each of eight numbers
pub eight : (P : ℤ → Type 0) (a b c d e f g h : ℤ) → P a → P b → P c → P d → P e → P f → P g → P h → All P (a ∷ b ∷ c ∷ d ∷ e ∷ f ∷ g ∷ h ∷ [])
eight P a b c d e f g h p q r s t u v w zero y l = p
eight P a b c d e f g h p q r s t u v w (suc zero) y l = q
eight P a b c d e f g h p q r s t u v w (suc (suc zero)) y l = r
eight P a b c d e f g h p q r s t u v w (suc (suc (suc zero))) y l = s
eight P a b c d e f g h p q r s t u v w (suc (suc (suc (suc zero)))) y l = t
eight P a b c d e f g h p q r s t u v w (suc (suc (suc (suc (suc zero))))) y l = u
eight P a b c d e f g h p q r s t u v w (suc (suc (suc (suc (suc (suc zero)))))) y l = v
eight P a b c d e f g h p q r s t u v w (suc (suc (suc (suc (suc (suc (suc zero))))))) y l = w
eight P a b c d e f g h p q r s t u v w (suc (suc (suc (suc (suc (suc (suc (suc k)))))))) y l = absurd (omega (arith, l))

way_of : (dt : ℤ) (power : ℕ) (r : Result ℤ Fault) (x : ℤ) → taken_by dt power r ≡ Ok x → IsSmall x → HasWay dt x power
unfolding taken_by
way_of dt power (Err fault) x e small = absurd (cc)
way_of dt power (Ok y) x e small = by_test (stays dt y power) refl e
  where
    by_test : (t : Bool) → stays dt y power ≡ t → if◌then◌else◌ {A = Result ℤ Fault} t (Ok y) (Err (record { column = 10 * power + 1; why = OutOfUnitRange })) ≡ Ok x → HasWay dt x power
    by_test true is h = let same : y ≡ x = cc in stays_way dt x power small (subst (λ (z : ℤ). stays dt z power ≡ true) same is)
    by_test false is h = absurd (cc)

-- four pairs of coefficients, as they are read
abbrev Pair : Type 0
Pair = ℤ × ℤ

abbrev Pairs : Type 0
Pairs = (Pair × Pair) × (Pair × Pair)

abbrev list_of : Pairs → List ℤ
list_of p = p.0.0.0 ∷ p.0.0.1 ∷ p.0.1.0 ∷ p.0.1.1 ∷ p.1.0.0 ∷ p.1.0.1 ∷ p.1.1.0 ∷ p.1.1.1 ∷ []

pair_read : (dt : ℤ) (line : List ℕ) (order power : ℕ) (pair : Pair) → pair_of line order dt power ≡ Ok pair → (taken_field line order dt power ≡ Ok pair.0) × (taken_field line order dt (power + 1) ≡ Ok pair.1)
unfolding pair_of
pair_read dt line order power pair e = each_of (taken_field line order dt power) (taken_field line order dt (power + 1)) pair e

-- there are no more than eight, and those behind them are 0
ways : (dt : ℤ) (line : List ℕ) (order : ℕ) (p : Pairs) → pair_of line order dt 0 ≡ Ok p.0.0 → pair_of line order dt 2 ≡ Ok p.0.1 → pair_of line order dt 4 ≡ Ok p.1.0 → pair_of line order dt 6 ≡ Ok p.1.1
    → All IsSmall (list_of p) → (power : ℕ) → HasWay dt (slice_index_or (list_of p) power (pos 0)) power
ways dt line order p a b c d small zero = way_of dt 0 (coefficient_field line order 0) p.0.0.0 (pair_read dt line order 0 p.0.0 a).0 (small 0 (pos 0) (omega arith))
ways dt line order p a b c d small (suc zero) = way_of dt 1 (coefficient_field line order 1) p.0.0.1 (pair_read dt line order 0 p.0.0 a).1 (small 1 (pos 0) (omega arith))
ways dt line order p a b c d small (suc (suc zero)) = way_of dt 2 (coefficient_field line order 2) p.0.1.0 (pair_read dt line order 2 p.0.1 b).0 (small 2 (pos 0) (omega arith))
ways dt line order p a b c d small (suc (suc (suc zero))) = way_of dt 3 (coefficient_field line order 3) p.0.1.1 (pair_read dt line order 2 p.0.1 b).1 (small 3 (pos 0) (omega arith))
ways dt line order p a b c d small (suc (suc (suc (suc zero)))) = way_of dt 4 (coefficient_field line order 4) p.1.0.0 (pair_read dt line order 4 p.1.0 c).0 (small 4 (pos 0) (omega arith))
ways dt line order p a b c d small (suc (suc (suc (suc (suc zero))))) = way_of dt 5 (coefficient_field line order 5) p.1.0.1 (pair_read dt line order 4 p.1.0 c).1 (small 5 (pos 0) (omega arith))
ways dt line order p a b c d small (suc (suc (suc (suc (suc (suc zero)))))) = way_of dt 6 (coefficient_field line order 6) p.1.1.0 (pair_read dt line order 6 p.1.1 d).0 (small 6 (pos 0) (omega arith))
ways dt line order p a b c d small (suc (suc (suc (suc (suc (suc (suc zero))))))) = way_of dt 7 (coefficient_field line order 7) p.1.1.1 (pair_read dt line order 6 p.1.1 d).1 (small 7 (pos 0) (omega arith))
ways dt line order p a b c d small (suc (suc (suc (suc (suc (suc (suc (suc n)))))))) = zero_way dt (suc (suc (suc (suc (suc (suc (suc (suc n))))))))

coefficients_kept : (dt : ℤ) (line : List ℕ) (order : ℕ) (card : List ℤ) → coefficients line order dt ≡ Ok card → All IsSmall card → IsPolynomial dt order card
unfolding coefficients four_of
coefficients_kept dt line order card e small =
    let low = both (pair_of line order dt 0) (pair_of line order dt 2) in
    let high = both (pair_of line order dt 4) (pair_of line order dt 6) in
    made_of (IsPolynomial dt order card) (both low high) list_of card e (λ p read same.
    let halves = each_of low high p read in
    let first = each_of (pair_of line order dt 0) (pair_of line order dt 2) p.0 halves.0 in
    let last = each_of (pair_of line order dt 4) (pair_of line order dt 6) p.1 halves.1 in
    let listed : All IsSmall (list_of p) = subst (λ (xs : List ℤ). All IsSmall xs) (sym same) small in
    subst (λ (xs : List ℤ). IsPolynomial dt order xs) same
    (record { small = listed; way = λ power l. ways dt line order p first.0 first.1 last.0 last.1 listed power }))

-- a card keeps what the coefficients do that were read
pub card_kept : (dt : ℤ) (line : List ℕ) (order : ℕ) (card : Result (List ℤ) Bad) (read : Result (List ℤ) Fault)
    → read ≡ coefficients line order dt → IfOk read (All IsSmall) → IfOk card (λ x. read ≡ Ok x) → IfOk card (IsPolynomial dt order)
card_kept dt line order (Ok x) read value small is =
    coefficients_kept dt line order x (sym value ∙ is) (subst (λ (r : Result (List ℤ) Fault). IfOk r (All IsSmall)) is small)
card_kept dt line order (Err bad) read value small is = tt
