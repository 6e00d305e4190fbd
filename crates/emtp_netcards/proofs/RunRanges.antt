-- What the miscellaneous cards keep that aren't refused.
use Rattle.emtp_fix.proofs.Chaining.{then_ok}
use Rattle.std.proofs.Common.{◌≡◌, subst, refl, ℕ, ℤ, pos, int_lt, Bool, true, false, ◌||◌, List, Option, Some, None, Result, Ok, Err, if◌then◌else◌, unsigned_abs, arith}
use Rattle.std.proofs.lemmas.Int.{ints}
use Rattle.std.specs.Ordering.{int_eq}
use Rattle.emtp_card.specs.Lines.{fault_of_line, is_section_end}
use Rattle.emtp_card.specs.NumberField.{number_or}
use Rattle.emtp_card.specs.Whole.{whole_field}
use Rattle.emtp_card.specs.held.Number.{IsWithin}
use Rattle.emtp_card.specs.declared.fault.Fault.{Fault}
use Rattle.emtp_card.specs.declared.reason.Bad.{Bad}
use Rattle.emtp_card.specs.declared.reason.Why.{Why}
use Rattle.emtp_card.specs.declared.reason.Why.TheVariants.{OutOfUnitRange}
use Rattle.emtp_case.specs.declared.limit.TheConstants.{LARGEST_TIME_STEP, LEAST_TIME_STEP}
use Rattle.emtp_fix.specs.declared.limit.TheConstants.{LARGEST_TOLERANCE}
use Rattle.emtp_fix.specs.Rounding.{near}
use Rattle.emtp_netcards.specs.Reading.{both, card_on, in_column}
use Rattle.emtp_netcards.specs.RunCards.{end_field, every_by, every_of, first_card, first_fields, second_card, second_fields, step_field, steps_of, times_by, tolerance_card, tolerance_field}
use Rattle.emtp_netcards.specs.held.RunCards.{IsFirstCard, IsMillion}
use Rattle.emtp_netcards.specs.declared.run_cards.FirstCard.{FirstCard}
use Rattle.emtp_netcards.specs.declared.run_cards.TheConstants.{COPT, DELTAT, TOLERATED, XOPT}
use Rattle.emtp_netcards.proofs.Readings.{by, each_of, field_of_column}
use Rattle.emtp_netcards.proofs.FieldRanges.{not_zero, required_within}

pub tolerance_keeps : (number : ℕ) (line : List ℕ) (x : ℤ) → tolerance_card number line ≡ Ok x → IsWithin (pos 0) (pos LARGEST_TOLERANCE) x
unfolding tolerance_card
tolerance_keeps number line x e = required_within TOLERATED line x (by number (fault_of_line line) (tolerance_field line) x e)

step_is : (line : List ℕ) (x : ℤ) → step_field line ≡ Ok x → IsWithin (pos LEAST_TIME_STEP) (pos LARGEST_TIME_STEP) x
step_is line x e = required_within DELTAT line x e

steps_are : (steps : ℤ) (n : ℕ) → steps_of steps ≡ Ok n → IsMillion n
unfolding steps_of
steps_are steps n e = go (int_lt steps (pos 1)) (int_lt (pos 1000000) steps) refl refl e
  where
    answer : Bool → Bool → Result ℕ Fault
    answer few many = if few || many then Err (record { column = 9; why = OutOfUnitRange }) else Ok (unsigned_abs steps)

    go : (few many : Bool) → int_lt steps (pos 1) ≡ few → int_lt (pos 1000000) steps ≡ many → answer few many ≡ Ok n → IsMillion n
    go true many f m e = absurd (cc)
    go false true f m e = absurd (cc)
    go false false f m e = let is : unsigned_abs steps ≡ n = cc in subst IsMillion is (record { some = omega (arith, ints, f, m); few = omega (arith, ints, f, m) })

times_are : (dt end : Result ℤ Fault) (card : FirstCard) → ((x : ℤ) → dt ≡ Ok x → IsWithin (pos LEAST_TIME_STEP) (pos LARGEST_TIME_STEP) x) → times_by dt end ≡ Ok card → IsFirstCard card
times_are dt end card within e =
    let t = then_ok (both dt end) _ card e in
    let parts = each_of dt end t.0 t.1 in
    let s = then_ok (steps_of (near t.0.1 t.0.0)) _ card t.2 in
    let made : FirstCard = record { dt = t.0.0; steps = s.0 } in
    let is : made ≡ card = cc in
    subst IsFirstCard is (record { dt = within t.0.0 parts.0; steps = steps_are (near t.0.1 t.0.0) s.0 s.1 })

first_are : (line : List ℕ) (card : FirstCard) → first_fields line ≡ Ok card → IsFirstCard card
unfolding first_fields
first_are line card e =
    let times = times_by (step_field line) (end_field line) in
    let zeros = both (number_or XOPT (pos 0) line) (number_or COPT (pos 0) line) in
    let t = then_ok (both times zeros) _ card e in
    let parts = each_of times zeros t.0 t.1 in
    let is : t.0.0 ≡ card = cc in
    subst IsFirstCard is (times_are (step_field line) (end_field line) t.0.0 (step_is line) parts.0)

pub first_keeps : (number : ℕ) (line : List ℕ) (card : FirstCard) → first_card number line ≡ Ok card → IsFirstCard card
unfolding first_card
first_keeps number line card e = go (is_section_end line) e
  where
    answer : Bool → Result FirstCard Bad
    answer ended = if ended then Err (record { line = number; column = 1; why = OutOfUnitRange }) else card_on number line (first_fields line)

    go : (ended : Bool) → answer ended ≡ Ok card → IsFirstCard card
    go true e = absurd (cc)
    go false e = first_are line card (by number (fault_of_line line) (first_fields line) card e)

one_is : (n : ℕ) → 1 ≡ n → IsMillion n
one_is n e = record { some = omega (arith, e); few = omega (arith, e) }

every_is : (n : ℤ) (x : ℕ) → every_of n ≡ Ok x → IsMillion x
every_is n x e = go (int_lt n (pos 0)) (int_lt (pos 1000000) n) (int_eq n (pos 0)) refl refl refl e
  where
    answer : Bool → Bool → Bool → Result ℕ Why
    answer low high none = if low || high then Err OutOfUnitRange else if none then Ok 1 else Ok (unsigned_abs n)

    go : (low high none : Bool) → int_lt n (pos 0) ≡ low → int_lt (pos 1000000) n ≡ high → int_eq n (pos 0) ≡ none → answer low high none ≡ Ok x → IsMillion x
    go true high none l h z e = absurd (cc)
    go false true none l h z e = absurd (cc)
    go false false true l h z e = one_is x (cc)
    go false false false l h z e =
        let some = not_zero n z (omega (arith, ints, l)) in
        let is : unsigned_abs n ≡ x = cc in
        subst IsMillion is (record { some = omega (arith, ints, some); few = omega (arith, ints, some, h) })

every_by_is : (read : Result (Option ℤ) Why) (x : ℕ) → every_by read ≡ Ok x → IsMillion x
every_by_is (Ok None) x e = one_is x (cc)
every_by_is (Ok (Some n)) x e = every_is n x e
every_by_is (Err why) x e = absurd (cc)

second_are : (line : List ℕ) (x : ℕ) → second_fields line ≡ Ok x → IsMillion x
unfolding second_fields
second_are line x e =
    let print = in_column 1 (whole_field line 1 8) in
    let every = in_column 9 (every_by (whole_field line 9 16)) in
    let t = then_ok (both print every) _ x e in
    let parts = each_of print every t.0 t.1 in
    let is : t.0.1 ≡ x = cc in
    subst IsMillion is (every_by_is (whole_field line 9 16) t.0.1 (field_of_column 9 _ t.0.1 parts.1))

pub second_keeps : (number : ℕ) (line : List ℕ) (x : ℕ) → second_card number line ≡ Ok x → IsMillion x
unfolding second_card
second_keeps number line x e = go (is_section_end line) e
  where
    answer : Bool → Result ℕ Bad
    answer ended = if ended then Ok 1 else card_on number line (second_fields line)

    go : (ended : Bool) → answer ended ≡ Ok x → IsMillion x
    go true e = one_is x (cc)
    go false e = second_are line x (by number (fault_of_line line) (second_fields line) x e)
