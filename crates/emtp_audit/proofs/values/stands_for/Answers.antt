use Rattle.std.proofs.Common.{◌≡◌, ◌∙◌, ap, ◌+◌, ◌^◌, ◌≤◌, ℕ, ℤ, pos, ◌*ℤ◌, ◌+ℤ◌, ◌-ℤ◌, unsigned_abs, FitsSigned, to_z, of_z, nat_le, arith}
use mir.Syntax.{w128}
use Rattle.std.proofs.lemmas.Int.{ints, to_z-of_z}
use Rattle.emtp_fix.specs.declared.limit.TheConstants.{LARGEST_WIDE}
use Rattle.emtp_fix.proofs.Wide.{fits, through}
use Rattle.emtp_audit.proofs.values.stands_for.Goals as goal
use Rattle.emtp_audit.specs.declared.limit.TheConstants.{LARGEST_SCALE}

-- two sums that are far from the limits of 128 bits
sum_fits : (x b : ℤ) → unsigned_abs x ≤ 10 ^ 38 → unsigned_abs b ≤ LARGEST_SCALE → FitsSigned w128 (to_z w128 (of_z w128 x) +ℤ to_z w128 (of_z w128 b))
sum_fits x b h k =
    let xs : to_z w128 (of_z w128 x) ≡ x = through x (omega (arith, h)) in
    let bs : to_z w128 (of_z w128 b) ≡ b = through b (omega (arith, k)) in
    rw (xs, bs) (fits (x +ℤ b) (omega (arith, ints, h, k)))

sum_is : (x b : ℤ) → unsigned_abs x ≤ 10 ^ 38 → unsigned_abs b ≤ LARGEST_SCALE → to_z w128 (of_z w128 (to_z w128 (of_z w128 x) +ℤ to_z w128 (of_z w128 b))) ≡ x +ℤ b
sum_is x b h k =
    let xs : to_z w128 (of_z w128 x) ≡ x = through x (omega (arith, h)) in
    let bs : to_z w128 (of_z w128 b) ≡ b = through b (omega (arith, k)) in
    rw (xs, bs) (through (x +ℤ b) (omega (arith, ints, h, k)))

both_small : (x b m : ℤ) → unsigned_abs x ≤ 10 ^ 38 → unsigned_abs b ≤ LARGEST_SCALE → unsigned_abs m ≤ 10 ^ 37
    → unsigned_abs (to_z w128 (of_z w128 (to_z w128 (of_z w128 x) +ℤ to_z w128 (of_z w128 b)))) + unsigned_abs (to_z w128 (of_z w128 m)) ≤ LARGEST_WIDE
both_small x b m h k l =
    omega (arith, ints, ap unsigned_abs (sum_is x b h k), ap unsigned_abs (through m (omega (arith, l))), h, k, l)

pub overflow_add-shown : goal.overflow_add-shown
overflow_add-shown c =
    let bound = c.product-shown.ensures.bound LARGEST_SCALE (10 ^ 10) (omega (arith, ints, c.requires.scale.a)) (omega (arith, ints, c.from.ensures, c.requires.raw)) in
    sum_fits c.product-shown.result c.args.scale.b (omega (arith, bound)) c.requires.scale.b

pub apart-requires : goal.apart-requires
apart-requires c =
    let bound = c.product-shown.ensures.bound LARGEST_SCALE (10 ^ 10) (omega (arith, ints, c.requires.scale.a)) (omega (arith, ints, c.from.ensures, c.requires.raw)) in
    let meant = c.product-meant.ensures.bound (2 ^ 63) (10 ^ 9) (omega (arith, ints, c.from-2.ensures)) (omega (arith, ints)) in
    both_small c.product-shown.result c.args.scale.b c.product-meant.result (omega (arith, bound)) c.requires.scale.b (omega (arith, meant))

pub returns : goal.returns
returns c =
    let a = c.args.scale.a in
    let b = c.args.scale.b in
    let shown = c.product-shown.result in
    let meant = c.product-meant.result in
    let a_fits : FitsSigned w128 c.args.scale.a = fits c.args.scale.a (omega (arith, c.requires.scale.a)) in
    let raw : c.from.result ≡ c.args.raw = omega (arith, ints, c.from.ensures) in
    let value : c.from-2.result ≡ c.args.value = omega (arith, ints, c.from-2.ensures) in
    let raw_fits : FitsSigned w128 c.from.result = fits c.from.result (omega (arith, ints, raw, c.requires.raw)) in
    let value_fits : FitsSigned w128 c.from-2.result = fits c.from-2.result (omega (arith, ints, c.from-2.ensures)) in
    let most = c.product-shown.ensures.bound LARGEST_SCALE (10 ^ 10) (omega (arith, ints, c.requires.scale.a)) (omega (arith, ints, c.from.ensures, c.requires.raw)) in
    let less = c.product-meant.ensures.bound (2 ^ 63) (10 ^ 9) (omega (arith, ints, c.from-2.ensures)) (omega (arith, ints)) in
    let shown_is = simp to_z-of_z at c.product-shown.ensures.value in
    let meant_is = simp to_z-of_z at c.product-meant.ensures.value in
    let far = c.apart.ensures
    ∙ ap (λ (x : ℤ). unsigned_abs (x -ℤ to_z w128 (of_z w128 meant))) (sum_is shown b (omega (arith, most)) c.requires.scale.b)
    ∙ ap (λ (m : ℤ). unsigned_abs ((shown +ℤ b) -ℤ m)) (through meant (omega (arith, less)))
    ∙ ap (λ (x : ℤ). unsigned_abs ((x +ℤ b) -ℤ meant)) (shown_is ∙ ap (λ (k : ℤ). a *ℤ k) raw)
    ∙ ap (λ (m : ℤ). unsigned_abs ((a *ℤ c.args.raw +ℤ b) -ℤ m)) (meant_is ∙ ap (λ (k : ℤ). k *ℤ pos (10 ^ 9)) value) in
    let own = simp to_z-of_z at c.unsigned_abs.ensures.value in
    ap (λ (n : ℕ). nat_le n c.unsigned_abs.result) far
    ∙ ap (nat_le (unsigned_abs ((a *ℤ c.args.raw +ℤ b) -ℤ c.args.value *ℤ pos (10 ^ 9)))) own
