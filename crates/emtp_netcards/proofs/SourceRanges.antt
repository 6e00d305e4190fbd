-- What a source card keeps that isn't refused.
use Rattle.emtp_fix.proofs.Chaining.{then_ok}
use Rattle.std.proofs.Common.{◌≡◌, subst, refl, ℕ, ◌-◌, ◌^◌, ◌≤◌, ℤ, pos, negsuc, neg_ℤ, ◌*ℤ◌, Bool, true, false, List, Option, Some, None, Result, Ok, Err, IfSome, if◌then◌else◌, unsigned_abs, arith}
use Rattle.std.proofs.lemmas.Int.{ints}
use Rattle.std.specs.Int.{int_rem_euclid}
use Rattle.std.specs.Option.{ForSome}
use Rattle.std.specs.Ordering.{int_eq}
use Rattle.emtp_card.specs.Lines.{fault_of_line}
use Rattle.emtp_card.specs.Name.{name_field}
use Rattle.emtp_card.specs.NumberField.{held_of, number_or}
use Rattle.emtp_card.specs.Whole.{whole_field}
use Rattle.emtp_card.specs.held.Number.{IsWithin}
use Rattle.emtp_card.specs.declared.fault.Fault.{Fault}
use Rattle.emtp_case.specs.held.Range.{IsBetween}
use Rattle.emtp_case.specs.declared.source.Shape.{Shape}
use Rattle.emtp_case.specs.declared.source.Shape.TheVariants.{Cosine, Ramp, Step, Tacs}
use Rattle.emtp_fix.specs.declared.limit.TheConstants.{LARGEST_TIME, TURN}
use Rattle.emtp_fix.specs.Rounding.{near}
use Rattle.emtp_netcards.specs.Fields.{needed}
use Rattle.emtp_netcards.specs.Reading.{◌>>=◌, both, in_column}
use Rattle.emtp_netcards.specs.SourceCard.{active_times, amplitude_field, cosine_numbers, cosine_of, course_of, fields_of, frequency_field, phase_by, phase_field, phase_of, ramp_of, rise_field, source_card, source_of, source_record, start_field, stop_by, stop_field, type_field}
use Rattle.emtp_netcards.specs.held.Fields.{IsSmall}
use Rattle.emtp_netcards.specs.held.SourceCard.{HasSourceCardNumbers, IsCourse}
use Rattle.emtp_netcards.specs.declared.source_card.SourceCard.{SourceCard}
use Rattle.emtp_netcards.specs.declared.source_card.SourceType.{SourceType}
use Rattle.emtp_netcards.specs.declared.source_card.TheConstants.{A1, AMPLITUDE, FREQUENCY, PHASE, RISE, START, STOP}
use Rattle.emtp_netcards.specs.declared.source_card.SourceType.TheVariants.{Cosine as CosineType, Ramp as RampType, Step as StepType, Tacs as TacsType}
use Rattle.emtp_netcards.proofs.Readings.{by, each_of}
use Rattle.emtp_netcards.proofs.FieldRanges.{held_of_is, held_or_is, not_zero, number_or_is, required_within}
use Rattle.emtp_netcards.proofs.SwitchRanges.{time_small, zero_time}

-- ---- fields

pub amplitude_is : (line : List ℕ) (x : ℤ) → amplitude_field line ≡ Ok x → IsSmall x
amplitude_is line x e =
    let zero : IsWithin (neg_ℤ (pos (10 ^ 18))) (pos (10 ^ 18)) (pos 0) = record { least = omega (arith, ints); most = omega (arith, ints) } in
    let w : IsWithin (neg_ℤ (pos (10 ^ 18))) (pos (10 ^ 18)) x = number_or_is AMPLITUDE (pos 0) line x zero e in
    omega (arith, ints, w.least, w.most)

frequency_is : (line : List ℕ) (x : ℤ) → frequency_field line ≡ Ok x → IsBetween 0 (10 ^ 13) x
frequency_is line x e =
    let zero : IsWithin (pos 0) (pos (10 ^ 13)) (pos 0) = record { least = omega (arith, ints); most = omega (arith, ints) } in
    let w : IsWithin (pos 0) (pos (10 ^ 13)) x = number_or_is FREQUENCY (pos 0) line x zero e in
    record { least = w.least; most = w.most }

turn_between : (z : ℤ) → IsBetween 0 (TURN - 1) (int_rem_euclid z (pos TURN))
turn_between (pos n) = record { least = omega (arith, ints); most = omega (arith, ints) }
turn_between (negsuc n) = record { least = omega (arith, ints); most = omega (arith, ints) }

phase_between : (degrees : ℤ) → IsBetween 0 (TURN - 1) (phase_of degrees)
unfolding phase_of
phase_between degrees = turn_between (near (degrees *ℤ pos (10 ^ 9)) (pos 360))

phase_by_is : (read : Result ℤ Fault) (x : ℤ) → phase_by read ≡ Ok x → IsBetween 0 (TURN - 1) x
phase_by_is (Ok degrees) x e = let is : phase_of degrees ≡ x = cc in subst (IsBetween 0 (TURN - 1)) is (phase_between degrees)
phase_by_is (Err fault) x e = absurd (cc)

phase_is : (line : List ℕ) (x : ℤ) → phase_field line ≡ Ok x → IsBetween 0 (TURN - 1) x
phase_is line x e = phase_by_is (number_or PHASE (pos 0) line) x e

rise_is : (line : List ℕ) (x : ℤ) → rise_field line ≡ Ok x → IsBetween 1 LARGEST_TIME x
rise_is line x e =
    let w : IsWithin (pos 1) (pos LARGEST_TIME) x = required_within RISE line x e in
    record { least = w.least; most = w.most }

start_is : (line : List ℕ) (x : ℤ) → start_field line ≡ Ok x → unsigned_abs x ≤ LARGEST_TIME
start_is line x e = time_small x (held_or_is START (pos 0) line x zero_time e)

stop_of : (read : Result (Option ℤ) Fault) (field : Option ℤ) → ((f : Option ℤ) → read ≡ Ok f → IfSome f (IsWithin (pos 0) (pos LARGEST_TIME))) → stop_by read ≡ Ok field → ForSome field (IsBetween 1 LARGEST_TIME)
stop_of (Ok None) field all e x f = absurd (cc)
stop_of (Ok (Some t)) field all e x f = go (int_eq t (pos 0)) refl e
  where
    answer : Bool → Result (Option ℤ) Fault
    answer zero' = if zero' then Ok None else Ok (Some t)

    go : (zero' : Bool) → int_eq t (pos 0) ≡ zero' → answer zero' ≡ Ok field → IsBetween 1 LARGEST_TIME x
    go true z e = absurd (cc)
    go false z e =
        let w : IsWithin (pos 0) (pos LARGEST_TIME) t = all (Some t) refl in
        let is : t ≡ x = cc in
        subst (IsBetween 1 LARGEST_TIME) is (record { least = not_zero t z w.least; most = w.most })
stop_of (Err fault) field all e x f = absurd (cc)

stop_is : (line : List ℕ) (field : Option ℤ) → stop_field line ≡ Ok field → ForSome field (IsBetween 1 LARGEST_TIME)
stop_is line field e = stop_of (held_of STOP line) field (λ f. held_of_is STOP line f (omega (arith, ints))) e

-- ---- courses

ramp_is : (line : List ℕ) (course : Shape × ℤ) → ramp_of line ≡ Ok course → IsCourse course.0 course.1
unfolding ramp_of
ramp_is line course e =
    let rise = rise_field line in
    let r = then_ok (both (amplitude_field line) rise) _ course e in
    let parts = each_of (amplitude_field line) rise r.0 r.1 in
    let is : (Ramp r.0.1, r.0.0) ≡ course = cc in
    subst (λ (c : Shape × ℤ). IsCourse c.0 c.1) is (record { small = amplitude_is line r.0.0 parts.0; network = tt; numbers = λ s a. rise_is line r.0.1 parts.1 })

pub cosine_are : (line : List ℕ) (numbers : ℤ × ℤ) → cosine_numbers line ≡ Ok numbers → IsBetween 0 (10 ^ 13) numbers.0 × IsBetween 0 (TURN - 1) numbers.1
unfolding cosine_numbers
cosine_are line numbers e =
    let freq = frequency_field line in
    let phase = phase_field line in
    let r = then_ok (both (both freq phase) (number_or A1 (pos 0) line)) _ numbers e in
    let front = each_of (both freq phase) (number_or A1 (pos 0) line) r.0 r.1 in
    let parts = each_of freq phase r.0.0 front.0 in
    let is : (r.0.0.0, r.0.0.1) ≡ numbers = cc in
    subst (λ (n : ℤ × ℤ). IsBetween 0 (10 ^ 13) n.0 × IsBetween 0 (TURN - 1) n.1) is (frequency_is line r.0.0.0 parts.0, phase_is line r.0.0.1 parts.1)

cosine_is : (line : List ℕ) (course : Shape × ℤ) → cosine_of line ≡ Ok course → IsCourse course.0 course.1
unfolding cosine_of
cosine_is line course e =
    let r = then_ok (both (amplitude_field line) (cosine_numbers line)) _ course e in
    let parts = each_of (amplitude_field line) (cosine_numbers line) r.0 r.1 in
    let is : (Cosine r.0.1.0 r.0.1.1, r.0.0) ≡ course = cc in
    subst (λ (c : Shape × ℤ). IsCourse c.0 c.1) is (record { small = amplitude_is line r.0.0 parts.0; network = tt; numbers = λ s a. cosine_are line r.0.1 parts.1 })

course_is : (line : List ℕ) (type : SourceType) (course : Shape × ℤ) → course_of line type ≡ Ok course → IsCourse course.0 course.1
course_is line StepType course e =
    let r = then_ok (amplitude_field line) _ course e in
    let is : (Step, r.0) ≡ course = cc in
    subst (λ (c : Shape × ℤ). IsCourse c.0 c.1) is (record { small = amplitude_is line r.0 r.1; network = tt; numbers = λ s a. tt })
course_is line RampType course e = ramp_is line course e
course_is line CosineType course e = cosine_is line course e
course_is line TacsType course e =
    let is : (Tacs 0, pos 0) ≡ course = cc in
    subst (λ (c : Shape × ℤ). IsCourse c.0 c.1) is (record { small = omega arith; network = omega arith; numbers = λ s a. a })

-- ---- the card

pub times_are : (line : List ℕ) (times : ℤ × Option ℤ) → active_times line ≡ Ok times → (unsigned_abs times.0 ≤ LARGEST_TIME) × ForSome times.1 (IsBetween 1 LARGEST_TIME)
unfolding active_times
times_are line times e =
    let parts = each_of (start_field line) (stop_field line) times e in
    (start_is line times.0 parts.0, stop_is line times.1 parts.1)

fields_keep : (number : ℕ) (line : List ℕ) (card : SourceCard) → fields_of number line ≡ Ok card → HasSourceCardNumbers card
unfolding fields_of
fields_keep number line card e =
    let name = in_column 3 (needed (name_field line 3)) in
    let sign = in_column 9 (whole_field line 9 10) in
    let course = in_column 1 (type_field line) >>= course_of line in
    let times = active_times line in
    let r = then_ok (both (both name sign) (both course times)) _ card e in
    let halves = each_of (both name sign) (both course times) r.0 r.1 in
    let parts = each_of course times r.0.1 halves.1 in
    let type = then_ok (in_column 1 (type_field line)) (course_of line) r.0.1.0 parts.0 in
    let c = course_is line type.0 r.0.1.0 type.2 in
    let t = times_are line r.0.1.1 parts.1 in
    let made = source_record number r.0.0.0 r.0.0.1 r.0.1.0 r.0.1.1 in
    let is : made ≡ card = cc in
    subst HasSourceCardNumbers is (record {
      numbers = record { amplitude = c.small; start = t.0; stop = t.1; shape = c.numbers (source_of made) refl };
      shape = c.network;
    })

pub source_keeps : (number : ℕ) (line : List ℕ) (card : SourceCard) → source_card number line ≡ Ok card → HasSourceCardNumbers card
unfolding source_card
source_keeps number line card e = fields_keep number line card (by number (fault_of_line line) (fields_of number line) card e)
