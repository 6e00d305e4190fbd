-- What limiters and chains do, in the field's own words.
use Rattle.std.proofs.Common.{◌≡◌, ap, sym, subst, refl, ℕ, ℤ, ◌+ℤ◌, ◌-ℤ◌, not, List, Option, Some, None, IfSome, Bool, true, false, if◌then◌else◌, arith}
use Rattle.std.proofs.lemmas.Int.{ints}
use Rattle.std.specs.Ordering.{int_eq}
use Rattle.std.proofs.lemmas.Bool.Decides.{Decides-int_eq}
use Rattle.emtp_case.specs.Control.{numerator_of, denominator_of}
use Rattle.emtp_case.specs.declared.control.Block.{Block}
use Rattle.emtp_case.specs.declared.control.BlockState.{BlockState}
use Rattle.emtp_case.specs.declared.control.Limiter.TheVariants.{Free, AtHigh, AtLow}
use Rattle.emtp_elim.specs.Matrix.{item}
use Rattle.emtp_blocks.specs.Block.{chain_of, error_of, held, input_of, is_above, is_below, kept_of, limiter_for, next_state, output_of, padded, unlimited_output}
use Rattle.emtp_blocks.specs.declared.limits.Limits.{Limits}

-- what holds of the state holds where there is one
where_kept : (P : BlockState → Type 0) (t : Bool) (new : BlockState) → P new → IfSome (if t then Some new else None) P
where_kept P true new h = h
where_kept P false new h = tt

at_high : (high low : Option ℤ) (z : ℤ) → limiter_for (record { low = low; high = high }) z ≡ AtHigh → Some (output_of (record { low = low; high = high }) Free z) ≡ high
at_high None low z e = by_low (is_below low z) e
  where
    by_low : (b : Bool) → (if b then AtLow else Free) ≡ AtHigh → Some (held (record { low = low; high = None }) (if b then AtLow else Free) z) ≡ None
    by_low true e = absurd (cc)
    by_low false e = absurd (cc)
at_high (Some y) low z e = ap (λ l. Some (held (record { low = low; high = Some y }) l z)) e

at_low : (high low : Option ℤ) (z : ℤ) → limiter_for (record { low = low; high = high }) z ≡ AtLow → Some (output_of (record { low = low; high = high }) Free z) ≡ low
at_low high None z e = by_high (is_above high z) e
  where
    by_high : (b : Bool) → (if b then AtHigh else Free) ≡ AtLow → Some (held (record { low = None; high = high }) (if b then AtHigh else Free) z) ≡ None
    by_high true e = absurd (cc)
    by_high false e = absurd (cc)
at_low high (Some y) z e = ap (λ l. Some (held (record { low = Some y; high = high }) l z)) e

pub recorded_high : (limits : Limits) (z : ℤ) → limiter_for limits z ≡ AtHigh → Some (output_of limits Free z) ≡ limits.high
recorded_high limits z e = at_high limits.high limits.low z e

pub recorded_low : (limits : Limits) (z : ℤ) → limiter_for limits z ≡ AtLow → Some (output_of limits Free z) ≡ limits.low
recorded_low limits z e = at_low limits.high limits.low z e

pub leaves : (dt : ℤ) (b : Block) (limits : Limits) (old : BlockState) (solved s : ℤ) → is_above limits.high (unlimited_output dt b old solved s) ≡ false → is_below limits.low (unlimited_output dt b old solved s) ≡ false
    → IfSome (next_state dt b limits old solved s) (λ (new : BlockState). new.limiter ≡ Free)
unfolding next_state
leaves dt b limits old solved s high low = where_kept (λ (new : BlockState). new.limiter ≡ Free) _ (kept_of dt b limits old (input_of b s) (output_of limits old.limiter solved) (unlimited_output dt b old solved s)) (rw (high, low) refl)

-- the first number of a chain of order 1, with what limits change and without
first_number : (es ys : List ℤ) (f : ℕ → ℤ) (clamped : Bool) → clamped ≡ false → item (padded 1 (chain_of 1 es ys f clamped)) 0 ≡ item ys 0 -ℤ (item es 0 +ℤ item (padded 1 f) 0)
first_number es ys f true free = absurd (cc)
first_number es ys f false free = omega (arith, ints)

pub trapezoid : (dt : ℤ) (b : Block) (limits : Limits) (old : BlockState) (solved s : ℤ) → b.order ≡ 1 → output_of limits old.limiter solved ≡ unlimited_output dt b old solved s
    → IfSome (next_state dt b limits old solved s) (λ (new : BlockState). item new.chain 0 ≡ item old.chain 0 -ℤ (item old.errors 0 +ℤ item new.errors 0))
unfolding next_state
trapezoid dt b limits old solved s one same =
    let u = input_of b s in
    let x = output_of limits old.limiter solved in
    let z = unlimited_output dt b old solved s in
    let f = error_of (numerator_of dt b) (denominator_of dt b) u x in
    let test : int_eq x z ≡ true = (Decides-int_eq x z).1 same in
    let P : ℕ → Type 0 = λ n. item (padded n (chain_of n old.errors old.chain f (not (int_eq x z)))) 0 ≡ item old.chain 0 -ℤ (item old.errors 0 +ℤ item (padded n f) 0) in
    where_kept (λ (new : BlockState). item new.chain 0 ≡ item old.chain 0 -ℤ (item old.errors 0 +ℤ item new.errors 0)) _ (kept_of dt b limits old u x z) (subst P (sym one) (first_number old.errors old.chain f (not (int_eq x z)) (ap not test)))
