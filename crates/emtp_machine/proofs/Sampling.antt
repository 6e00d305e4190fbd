-- Which records are samples, and how many there are.
use Rattle.std.proofs.Common.{◌≡◌, ◌≢◌, ◌∙◌, ap, ℕ, suc, ◌+◌, ◌*◌, ◌/◌, ◌%◌, ◌<◌, ◌≤◌, ◌==◌, true, false, if◌then◌else◌, List, [], ◌∷◌, ◌++◌, length, refl, arith}
use Rattle.std.proofs.Math.Nat.{div-add-mod, mul-mod_left, mul_comm, suc-mul, zero-mod, mul-le-mul_right, lt_of_mul-lt-mul_right, lt-div-mul-add}
use Rattle.std.proofs.lemmas.Bool.Decides.{nat_tests}
use Rattle.emtp_case.specs.StepRecord.{StepRecord}
use Rattle.emtp_case.specs.declared.case.Parts.{Parts}
use Rattle.emtp_machine.specs.Channels.{sample_of, samples_in}

is_due : (n every : ℕ) → n % every ≡ 0 → (n % every == 0) ≡ true
is_due n every due = grind (arith, nat_tests, due)

isnt_due : (n every : ℕ) → n % every ≢ 0 → (n % every == 0) ≡ false
isnt_due n every due = grind (arith, nat_tests, due)

-- a record that is a sample
pub taken : (case : Parts) (r : StepRecord) (past : List StepRecord) → length past % case.run.every ≡ 0 → samples_in case (r ∷ past) ≡ samples_in case past ++ sample_of case r ∷ []
unfolding samples_in
taken case r past due =
    ap (λ b. if b then samples_in case past ++ sample_of case r ∷ [] else samples_in case past) (is_due (length past) case.run.every due)

-- a record that is none
pub passed : (case : Parts) (r : StepRecord) (past : List StepRecord) → length past % case.run.every ≢ 0 → samples_in case (r ∷ past) ≡ samples_in case past
unfolding samples_in
passed case r past due =
    ap (λ b. if b then samples_in case past ++ sample_of case r ∷ [] else samples_in case past) (isnt_due (length past) case.run.every due)

pub none_yet : (case : Parts) → samples_in case [] ≡ []
unfolding samples_in
none_yet case = refl

-- rest is a sample
pub first : (case : Parts) (r : StepRecord) → samples_in case (r ∷ []) ≡ sample_of case r ∷ []
first case r = taken case r [] (zero-mod case.run.every) ∙ ap (λ rows. rows ++ sample_of case r ∷ []) (none_yet case)

-- ---- how many samples there are

-- so many samples were taken up to record n, and the next record is one
at_most : (count n every : ℕ) → count * every ≤ n + every → (n + 1) % every ≡ 0 → 1 ≤ every → count ≤ (n + 1) / every
at_most count n every few due some =
    let parts : every * ((n + 1) / every) + (n + 1) % every ≡ n + 1 = div-add-mod (n + 1) every in
    let turned : every * ((n + 1) / every) ≡ (n + 1) / every * every = mul_comm every ((n + 1) / every) in
    let whole : suc ((n + 1) / every) * every ≡ (n + 1) / every * every + every = suc-mul ((n + 1) / every) every in
    let less : count * every < suc ((n + 1) / every) * every = omega (arith, parts, turned, whole, few, due, some) in
    let within : count < suc ((n + 1) / every) = lt_of_mul-lt-mul_right every less in
    omega (arith, within)

pub one_more : (count n every : ℕ) → count * every ≤ n + every → (n + 1) % every ≡ 0 → 1 ≤ every → (count + 1) * every ≤ n + 1 + every
one_more count n every few due some =
    let parts : every * ((n + 1) / every) + (n + 1) % every ≡ n + 1 = div-add-mod (n + 1) every in
    let turned : every * ((n + 1) / every) ≡ (n + 1) / every * every = mul_comm every ((n + 1) / every) in
    let most : count * every ≤ (n + 1) / every * every = mul-le-mul_right every (at_most count n every few due some) in
    let further : suc count ≡ count + 1 = omega arith in
    let longer : suc count * every ≡ count * every + every = suc-mul count every in
    let whole : (count + 1) * every ≡ count * every + every = rw further at longer in
    omega (arith, parts, turned, most, whole, due)

pub room_left : (count n every steps : ℕ) → count * every ≤ n + every → (n + 1) % every ≡ 0 → 1 ≤ every → n < steps → count < steps / every + 1
room_left count n every steps few due some more =
    let parts : every * ((n + 1) / every) + (n + 1) % every ≡ n + 1 = div-add-mod (n + 1) every in
    let turned : every * ((n + 1) / every) ≡ (n + 1) / every * every = mul_comm every ((n + 1) / every) in
    let most : count * every ≤ (n + 1) / every * every = mul-le-mul_right every (at_most count n every few due some) in
    let above : steps < steps / every * every + every = lt-div-mul-add (omega (arith, some)) in
    let whole : suc (steps / every) * every ≡ steps / every * every + every = suc-mul (steps / every) every in
    let less : count * every < suc (steps / every) * every = omega (arith, parts, turned, most, above, whole, due, more) in
    let within : count < suc (steps / every) = lt_of_mul-lt-mul_right every less in
    omega (arith, within)

-- the samples taken up to record n are those of the multiples of `every` up to n
pub record IsCount (count n every : ℕ) : Type 0 where
  pub most : count * every ≤ n + every
  pub least : n < count * every

-- the next record is a sample: it is record count times `every`
pub due_at : (count n every : ℕ) → IsCount count n every → (n + 1) % every ≡ 0 → 1 ≤ every → count * every ≡ n + 1
due_at count n every is due some =
    let parts : every * ((n + 1) / every) + (n + 1) % every ≡ n + 1 = div-add-mod (n + 1) every in
    let turned : every * ((n + 1) / every) ≡ (n + 1) / every * every = mul_comm every ((n + 1) / every) in
    let most : count * every ≤ (n + 1) / every * every = mul-le-mul_right every (at_most count n every is.most due some) in
    omega (arith, parts, turned, most, due, is.least)

pub count_taken : (count n every : ℕ) → IsCount count n every → (n + 1) % every ≡ 0 → 1 ≤ every → IsCount (count + 1) (n + 1) every
count_taken count n every is due some =
    let here = due_at count n every is due some in
    let further : suc count ≡ count + 1 = omega arith in
    let longer : suc count * every ≡ count * every + every = suc-mul count every in
    let whole : (count + 1) * every ≡ count * every + every = rw further at longer in
    record { most = omega (arith, here, whole); least = omega (arith, here, whole, some) }

pub count_passed : (count n every : ℕ) → IsCount count n every → (n + 1) % every ≢ 0 → IsCount count (n + 1) every
count_passed count n every is due =
    let none : n + 1 ≢ count * every = λ same. due (ap (λ (k : ℕ). k % every) same ∙ mul-mod_left count every) in
    record { most = omega (arith, is.most); least = omega (arith, is.least, none) }
