use Rattle.std.proofs.Common.{◌≡◌, ◌∙◌, sym, subst, ℕ, ◌-◌, ◌^◌, ◌≤◌, take, length, get_or, arith}
use Rattle.std.specs.Char.{IsAsciiDigit}
use Rattle.std.proofs.lemmas.List.Elements.{All-append}
use Rattle.emtp_fix.specs.Rounding.{near_abs}
use Rattle.emtp_card.specs.Decimal.{number_of}
use Rattle.emtp_card.specs.held.Rounding.{digits_in}
use Rattle.emtp_card.specs.held.Numeral.{AreDigits, IsNumeral}
use Rattle.emtp_card.specs.declared.numeral.Numeral.{Numeral}
use Rattle.emtp_card.proofs.Cutting.{IsCut, cut_is, cut_all, front-le_cut}
use Rattle.emtp_card.proofs.numeral.Numeral.rounded.Goals as goal

digital : (n : Numeral) → IsNumeral n → AreDigits (digits_in n)
digital n parts = All-append IsAsciiDigit n.whole.now n.fraction.now parts.whole parts.fraction

-- the cut, at the length that the code counts
cut_at : (n : Numeral) (cut len : ℕ) → IsNumeral n → 1 ≤ cut → len ≡ length (digits_in n) → cut ≤ len
    → IsCut (number_of (take (len - cut) (digits_in n))) (get_or (digits_in n) (len - cut) 0) (near_abs (number_of (digits_in n)) (10 ^ cut))
cut_at n cut len parts one counted within =
    let P : ℕ → Type 0 = λ k. IsCut (number_of (take (k - cut) (digits_in n))) (get_or (digits_in n) (k - cut) 0) (near_abs (number_of (digits_in n)) (10 ^ cut)) in
    subst P (sym counted) (cut_is (digits_in n) cut one (omega (arith, counted)) (digital n parts))

pub returns-then-cut-len : goal.returns-then-cut-len
returns-then-cut-len c =
    let none = cut_all (digits_in c.args.self.now) c.args.cut (omega (arith, c.len-len.ensures)) (digital c.args.self.now c.requires.parts) in
    (omega (arith, none), sym none)

pub returns-in_default : goal.returns-in_default
returns-in_default c = λ small.
    let cut = cut_at c.args.self.now c.args.cut c.len-len.result c.requires.parts c.requires.cut c.len-len.ensures (omega arith) in
    c.in_default.ensures {u = tt} (omega (arith, small, front-le_cut _ _ _ cut))

pub returns-then-digit-lt53 : goal.returns-then-digit-lt53
returns-then-digit-lt53 c =
    let cut = cut_at c.args.self.now c.args.cut c.len-len.result c.requires.parts c.requires.cut c.len-len.ensures (omega arith) in
    let front = c.in-Some.ensures {u = tt} in
    let down = cut.down (omega (arith, c.digit.ensures)) in
    (omega (arith, down, front.0), front.1 ∙ sym down)

pub returns-then-front-lt-MOST : goal.returns-then-front-lt-MOST
returns-then-front-lt-MOST c =
    let cut = cut_at c.args.self.now c.args.cut c.len-len.result c.requires.parts c.requires.cut c.len-len.ensures (omega arith) in
    let front = c.in-Some.ensures {u = tt} in
    let up = cut.up (omega (arith, c.digit.ensures)) in
    (omega (arith, up, front.1), omega (arith, up, front.1))

pub returns-else-front-lt-MOST : goal.returns-else-front-lt-MOST
returns-else-front-lt-MOST c = λ small.
    let cut = cut_at c.args.self.now c.args.cut c.len-len.result c.requires.parts c.requires.cut c.len-len.ensures (omega arith) in
    let front = c.in-Some.ensures {u = tt} in
    let up = cut.up (omega (arith, c.digit.ensures)) in
    omega (arith, small, up, front.1)
