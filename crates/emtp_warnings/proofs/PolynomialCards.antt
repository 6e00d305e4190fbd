-- Two lines without a faulty byte that agree under the ruler of one of them give the same polynomials.
use Rattle.std.proofs.Common.{◌≡◌, ◌∙◌, sym, ap, refl, ℕ, zero, suc, ◌≤◌, ℤ, List, arith}
use Rattle.std.specs.Prelude.{None}
use Rattle.emtp_netcards.specs.Reading.{card_by}
use Rattle.emtp_taccards.specs.PolynomialCard.{coefficient_field, coefficients, four_of, pair_of, polynomial_card}
use Rattle.emtp_warnings.proofs.Agreeing.{number_under}
use Rattle.emtp_warnings.proofs.PointCards.{read_is}
use Rattle.emtp_warnings.specs.Law.{AgreeUnder, AreFaultless}
use Rattle.emtp_warnings.specs.Marked.{polynomial_ruler}

module _ (x y : List ℕ) (sound : AreFaultless x y) where
  list_from : (order : ℕ) (dt : ℤ) → coefficient_field x order 0 ≡ coefficient_field y order 0 → coefficient_field x order 1 ≡ coefficient_field y order 1 → coefficient_field x order 2 ≡ coefficient_field y order 2 → coefficient_field x order 3 ≡ coefficient_field y order 3 → coefficient_field x order 4 ≡ coefficient_field y order 4 → coefficient_field x order 5 ≡ coefficient_field y order 5 → coefficient_field x order 6 ≡ coefficient_field y order 6 → coefficient_field x order 7 ≡ coefficient_field y order 7
      → coefficients x order dt ≡ coefficients y order dt
  unfolding coefficients four_of pair_of
  list_from order dt a b c d e f g h = simp (a, b, c, d, e, f, g, h)

  polynomial_from : (number order : ℕ) (dt : ℤ) → coefficient_field x order 0 ≡ coefficient_field y order 0 → coefficient_field x order 1 ≡ coefficient_field y order 1 → coefficient_field x order 2 ≡ coefficient_field y order 2 → coefficient_field x order 3 ≡ coefficient_field y order 3 → coefficient_field x order 4 ≡ coefficient_field y order 4 → coefficient_field x order 5 ≡ coefficient_field y order 5 → coefficient_field x order 6 ≡ coefficient_field y order 6 → coefficient_field x order 7 ≡ coefficient_field y order 7
      → polynomial_card number x order dt ≡ polynomial_card number y order dt
  unfolding polynomial_card
  polynomial_from number order dt a b c d e f g h =
      read_is number x (coefficients x order dt) sound.one ∙ ap (card_by number None) (list_from order dt a b c d e f g h) ∙ sym (read_is number y (coefficients y order dt) sound.other)

  pub polynomial_under : (order : ℕ) → order ≤ 7 → (dt : ℤ) (number : ℕ) → AgreeUnder (polynomial_ruler order) x y → polynomial_card number x order dt ≡ polynomial_card number y order dt
  polynomial_under zero few dt number h = polynomial_from number 0 dt (simp (number_under (polynomial_ruler 0) x y h 1 10 refl)) refl refl refl refl refl refl refl
  polynomial_under (suc zero) few dt number h = polynomial_from number 1 dt (simp (number_under (polynomial_ruler 1) x y h 1 10 refl)) (simp (number_under (polynomial_ruler 1) x y h 11 20 refl)) refl refl refl refl refl refl
  polynomial_under (suc (suc zero)) few dt number h = polynomial_from number 2 dt (simp (number_under (polynomial_ruler 2) x y h 1 10 refl)) (simp (number_under (polynomial_ruler 2) x y h 11 20 refl)) (simp (number_under (polynomial_ruler 2) x y h 21 30 refl)) refl refl refl refl refl
  polynomial_under (suc (suc (suc zero))) few dt number h = polynomial_from number 3 dt (simp (number_under (polynomial_ruler 3) x y h 1 10 refl)) (simp (number_under (polynomial_ruler 3) x y h 11 20 refl)) (simp (number_under (polynomial_ruler 3) x y h 21 30 refl)) (simp (number_under (polynomial_ruler 3) x y h 31 40 refl)) refl refl refl refl
  polynomial_under (suc (suc (suc (suc zero)))) few dt number h = polynomial_from number 4 dt (simp (number_under (polynomial_ruler 4) x y h 1 10 refl)) (simp (number_under (polynomial_ruler 4) x y h 11 20 refl)) (simp (number_under (polynomial_ruler 4) x y h 21 30 refl)) (simp (number_under (polynomial_ruler 4) x y h 31 40 refl)) (simp (number_under (polynomial_ruler 4) x y h 41 50 refl)) refl refl refl
  polynomial_under (suc (suc (suc (suc (suc zero))))) few dt number h = polynomial_from number 5 dt (simp (number_under (polynomial_ruler 5) x y h 1 10 refl)) (simp (number_under (polynomial_ruler 5) x y h 11 20 refl)) (simp (number_under (polynomial_ruler 5) x y h 21 30 refl)) (simp (number_under (polynomial_ruler 5) x y h 31 40 refl)) (simp (number_under (polynomial_ruler 5) x y h 41 50 refl)) (simp (number_under (polynomial_ruler 5) x y h 51 60 refl)) refl refl
  polynomial_under (suc (suc (suc (suc (suc (suc zero)))))) few dt number h = polynomial_from number 6 dt (simp (number_under (polynomial_ruler 6) x y h 1 10 refl)) (simp (number_under (polynomial_ruler 6) x y h 11 20 refl)) (simp (number_under (polynomial_ruler 6) x y h 21 30 refl)) (simp (number_under (polynomial_ruler 6) x y h 31 40 refl)) (simp (number_under (polynomial_ruler 6) x y h 41 50 refl)) (simp (number_under (polynomial_ruler 6) x y h 51 60 refl)) (simp (number_under (polynomial_ruler 6) x y h 61 70 refl)) refl
  polynomial_under (suc (suc (suc (suc (suc (suc (suc zero))))))) few dt number h = polynomial_from number 7 dt (simp (number_under (polynomial_ruler 7) x y h 1 10 refl)) (simp (number_under (polynomial_ruler 7) x y h 11 20 refl)) (simp (number_under (polynomial_ruler 7) x y h 21 30 refl)) (simp (number_under (polynomial_ruler 7) x y h 31 40 refl)) (simp (number_under (polynomial_ruler 7) x y h 41 50 refl)) (simp (number_under (polynomial_ruler 7) x y h 51 60 refl)) (simp (number_under (polynomial_ruler 7) x y h 61 70 refl)) (simp (number_under (polynomial_ruler 7) x y h 71 80 refl))
  polynomial_under (suc (suc (suc (suc (suc (suc (suc (suc order)))))))) few dt number h = absurd (omega arith)
