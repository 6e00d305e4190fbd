-- The digits of a short number, one behind the other.
use Rattle.std.proofs.Common.{◌≡◌, ◌≤◌, ◌<◌, ◌^◌, ◌/◌, ◌%◌, ◌++◌, ◌∙◌, sym, ap, ℕ, List, append_assoc, decimal, arith}
use Rattle.std.proofs.lemmas.Fmt.{decimal_digit, decimal_step}

-- a number of more than one digit is its front and its last digit
pub digits_next : (text front next : List ℕ) (n : ℕ) → 10 ≤ n → n < 2 ^ 32 → front ≡ text ++ decimal (n / 10) → next ≡ front ++ decimal (n % 10)
    → next ≡ text ++ decimal n
digits_next text front next n more small before is =
    is
    ∙ ap (λ (xs : List ℕ). xs ++ decimal (n % 10)) before
    ∙ append_assoc text (decimal (n / 10)) (decimal (n % 10))
    ∙ ap (λ (xs : List ℕ). text ++ (decimal (n / 10) ++ xs)) (decimal_digit (n % 10) (omega arith))
    ∙ ap (λ (xs : List ℕ). text ++ xs) (sym (decimal_step n more (omega (arith, small))))

pub ruleset digits = (digits_next)
