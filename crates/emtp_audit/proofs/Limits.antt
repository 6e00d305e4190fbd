-- A number that is read lies within its limit.
use Rattle.std.proofs.Common.{◌≡◌, ◌≤◌, sym, subst, ℕ, ℤ, unsigned_abs, nat_lt, Bool, true, false, cond, List, Result, Ok, Err, refl, arith}
use Rattle.std.proofs.lemmas.Bool.Decides.{nat_tests}
use Rattle.emtp_card.specs.Field.{trimmed}
use Rattle.emtp_card.specs.Number.{number_in, in_limit, read_number_of}
use Rattle.emtp_card.specs.declared.reason.Why.{Why}
use Rattle.emtp_card.specs.declared.reason.Why.TheVariants.{OutOfUnitRange}

in_limit-le : (limit value : ℤ) (read : Result ℤ Why) → Ok value ≡ in_limit limit read → unsigned_abs value ≤ unsigned_abs limit
in_limit-le limit value (Err why) e = absurd (cc)
in_limit-le limit value (Ok other) e = by_test (nat_lt (unsigned_abs limit) (unsigned_abs other)) refl e
  where
    not_above : (m n : ℕ) → nat_lt m n ≡ false → n ≤ m
    not_above m n h = grind (arith, nat_tests)

    by_test : (t : Bool) → nat_lt (unsigned_abs limit) (unsigned_abs other) ≡ t → Ok value ≡ cond t (Err OutOfUnitRange) (Ok other) → unsigned_abs value ≤ unsigned_abs limit
    by_test true h e = absurd (cc)
    by_test false h e =
        let same : value ≡ other = cc in
        let P : ℤ → Type 0 = λ z. unsigned_abs z ≤ unsigned_abs limit in
        subst P (sym same) (not_above (unsigned_abs limit) (unsigned_abs other) h)

pub read_number_of-limit : (text : List ℕ) (scale limit value : ℤ) → Ok value ≡ read_number_of text scale limit → unsigned_abs value ≤ unsigned_abs limit
unfolding read_number_of
read_number_of-limit text scale limit value e = in_limit-le limit value (number_in scale (trimmed text)) e
