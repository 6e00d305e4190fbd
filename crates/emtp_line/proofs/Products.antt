-- Products of a number of 64 bits and a wider one, as the code computes them.
use Rattle.std.proofs.Common.{◌≡◌, ◌∙◌, ap, sym, subst, refl, ◌≤◌, ◌*◌, ◌*ℤ◌, ℕ, ℤ, unsigned_abs, FitsSigned, to_z, of_z, arith, rules}
use mir.Syntax.{w64, w128}
use Rattle.std.proofs.lemmas.Int.{to_z-of_z}
use Rattle.emtp_fix.specs.declared.limit.TheConstants.{LARGEST_WIDE}
use Rattle.emtp_fix.proofs.Wide.{abs-mul-le, fits, through}

abbrev pub computed : ℤ → ℤ → ℤ
computed a b = to_z w128 (of_z w128 (to_z w64 (of_z w64 a))) *ℤ to_z w128 (of_z w128 b)

pub record IsProduct (a b : ℤ) : Type 0 where
  pub fits : FitsSigned w128 (computed a b)
  pub is : to_z w128 (of_z w128 (computed a b)) ≡ a *ℤ b
  pub small : unsigned_abs (to_z w128 (of_z w128 (computed a b))) ≤ LARGEST_WIDE

pub product : {a b : ℤ} {m n : ℕ} → FitsSigned w64 a → FitsSigned w128 b → unsigned_abs a ≤ m → unsigned_abs b ≤ n → m * n ≤ LARGEST_WIDE → IsProduct a b
product {a} {b} {m} {n} f g small_a small_b small =
    let f' : FitsSigned w128 a = search rules in
    let same : computed a b ≡ a *ℤ b = rw (to_z-of_z w64 a f, to_z-of_z w128 a f', to_z-of_z w128 b g) refl in
    let within : unsigned_abs (a *ℤ b) ≤ LARGEST_WIDE = omega (arith, abs-mul-le a b m n small_a small_b, small) in
    let is : to_z w128 (of_z w128 (computed a b)) ≡ a *ℤ b = ap (λ z. to_z w128 (of_z w128 z)) same ∙ through (a *ℤ b) within in
    record { fits = subst (FitsSigned w128) (sym same) (fits (a *ℤ b) within); is = is; small = rw is within }
