use Rattle.std.proofs.Math.Seq.{take-append-add}
use Rattle.std.proofs.Common.{◌≡◌, ◌∙◌, sym, ap, subst, ℕ, ◌+◌, ◌-◌, ◌<◌, ◌≤◌, List, ◌++◌, take, length, arith}
use Rattle.std.specs.Option.{SomeIff}
use Rattle.emtp_card.specs.Decimal.{with_digits, number_of}
use Rattle.emtp_card.specs.declared.rounding.TheConstants.{MOST}
use Rattle.emtp_card.proofs.Digits.{le-with_digits, with_digits-append}
use Rattle.emtp_card.proofs.numeral.Numeral.front.Goals as goal

-- digits that reach after the point
into_fraction : (whole fraction : List ℕ) (count : ℕ) → length whole < count → number_of (take count (whole ++ fraction)) ≡ with_digits (number_of whole) (take (count - length whole) fraction)
into_fraction whole fraction count past =
    let both : length whole + (count - length whole) ≡ count = omega arith in
    ap (λ (n : ℕ). number_of (take n (whole ++ fraction))) (sym both)
    ∙ ap number_of (take-append-add whole fraction (count - length whole))
    ∙ with_digits-append 0 whole (take (count - length whole) fraction)

pub returns-in-Some : goal.returns-in-Some
returns-in-Some c =
    let whole = c.args.self.now.whole.now in
    let fraction = c.args.self.now.fraction.now in
    let rest = take (c.args.count - length whole) fraction in
    let P : ℕ → Type 0 = λ v. SomeIff c.append_digits-in-Some.result (v ≤ MOST) v in
    subst P (ap (λ (n : ℕ). with_digits n rest) (c.in-Some.ensures {u = tt}).1 ∙ sym (into_fraction whole fraction c.args.count c.if-count-self.false)) c.append_digits-in-Some.ensures

pub returns-in-None : goal.returns-in-None
returns-in-None c = λ small.
    let whole = c.args.self.now.whole.now in
    let fraction = c.args.self.now.fraction.now in
    c.in-None.ensures {u = tt} (omega (arith, small, into_fraction whole fraction c.args.count c.if-count-self.false, le-with_digits (number_of whole) (take (c.args.count - length whole) fraction)))
