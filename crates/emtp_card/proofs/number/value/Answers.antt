use Rattle.std.specs.Int.{w32, w128}
use Rattle.std.proofs.Common.{◌≡◌, ◌∙◌, sym, subst, ℕ, ◌+◌, ◌<◌, ◌≤◌, ℤ, Some, Ok, to_z, of_z, arith}
use Rattle.std.proofs.lemmas.Int.{ints}
use Rattle.emtp_card.specs.Decimal.{Decimal, signed, value_in}
use Rattle.emtp_card.specs.held.Numeral.{meaning_of}
use Rattle.emtp_card.specs.held.Rounding.{magnitude_in}
use Rattle.emtp_card.specs.Number.{valued, number_in}
use Rattle.emtp_card.specs.held.Number.{Reads, StandsFor}
use Rattle.emtp_card.specs.declared.rounding.TheConstants.{MOST}
use Rattle.emtp_card.proofs.Values.{value_in-signed, bounded_stands}
use Rattle.emtp_card.proofs.number.value.Goals as goal

-- what the code reads stands for the value of the decimal
reads_value : (scale : ℤ) (decimal : Decimal) (bounded : ℕ) (read : ℤ) → (magnitude_in scale decimal ≤ MOST → bounded ≡ magnitude_in scale decimal) → (MOST < magnitude_in scale decimal → bounded ≡ MOST + 1)
    → read ≡ signed decimal.negative bounded → Reads (Ok read) (valued scale (Some decimal))
reads_value scale decimal bounded read exact above is =
    let stands = bounded_stands decimal.negative (magnitude_in scale decimal) bounded exact above in
    subst (λ r. StandsFor r (value_in scale decimal)) (sym is) (subst (StandsFor (signed decimal.negative bounded)) (sym (value_in-signed scale decimal)) stands)

pub returns-in-Some : goal.returns-in-Some
unfolding number_in
returns-in-Some c =
    let decimal = meaning_of c.in-Some.numeral in
    let scale : to_z w32 (of_z w32 c.args.scale) ≡ c.args.scale = omega (arith, ints) in
    let read : to_z w128 (of_z w128 c.signed.result) ≡ c.signed.result = omega (arith, ints) in
    let P : ℤ → Type 0 = λ s. (magnitude_in s decimal ≤ MOST → c.bounded.result ≡ magnitude_in s decimal) × (MOST < magnitude_in s decimal → c.bounded.result ≡ MOST + 1) in
    let bounds = subst P scale (c.bounded.ensures.exact, c.bounded.ensures.above) in
    let reads = reads_value c.args.scale decimal c.bounded.result (to_z w128 (of_z w128 c.signed.result)) bounds.0 bounds.1 (read ∙ c.signed.ensures) in
    subst (λ d. Reads (Ok (to_z w128 (of_z w128 c.signed.result))) (valued c.args.scale d)) c.in-Some.ensures.value reads
