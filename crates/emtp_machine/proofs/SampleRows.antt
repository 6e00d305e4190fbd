-- Samples that stand one behind the other in one list.
use Rattle.std.proofs.Common.{◌≡◌, ℕ, zero, suc, ◌+◌, ◌*◌, ◌<◌, ◌≤◌, ◌^◌, ℤ, pos, List, [], ◌∷◌, ◌++◌, length, take, drop, get_or, slice_index_or, arith, refl, sym, ◌∙◌, ap, add-one, length-drop, mul_assoc}
use Rattle.std.proofs.Math.Seq.{take-length}
use Rattle.std.proofs.Math.Nat.{mul-le-mul_right}
use Rattle.std.proofs.lemmas.List.{get_or-take, get_or-drop, take-append-le, drop-append-le}
use Rattle.emtp_machine.specs.Samples.{value_at}
use Rattle.emtp_machine.specs.held.Samples.{rows_of}

pub length-rows_of : (channels count : ℕ) (values : List ℤ) → length (rows_of channels count values) ≡ count
length-rows_of channels zero values = refl
length-rows_of channels (suc count) values = ap (λ (n : ℕ). suc n) (length-rows_of channels count (drop channels values))

-- a value stands behind those of the samples before it
pub value_at-rows_of : (channels count : ℕ) (values : List ℤ) (sample channel : ℕ)
    → sample < count → channel < channels
    → value_at (rows_of channels count values) sample channel
    ≡ slice_index_or values (sample * channels + channel) (pos 0)
value_at-rows_of channels zero values sample channel s c = absurd (omega arith)
value_at-rows_of channels (suc count) values zero channel s c =
    let place : channel ≡ 0 * channels + channel = omega arith in
    get_or-take channels values channel (pos 0) c ∙ ap (λ (n : ℕ). get_or values n (pos 0)) place
value_at-rows_of channels (suc count) values (suc sample) channel s c =
    let place : channels + (sample * channels + channel) ≡ suc sample * channels + channel = omega arith in
    value_at-rows_of channels count (drop channels values) sample channel (omega arith) c
    ∙ get_or-drop channels values (sample * channels + channel) (pos 0)
    ∙ ap (λ (n : ℕ). get_or values n (pos 0)) place

pub place-within : (count channels sample channel : ℕ) → sample < count → channel < channels
    → sample * channels + channel < count * channels
place-within count channels sample channel s c =
    let most : (sample + 1) * channels ≤ count * channels = mul-le-mul_right channels (omega arith) in
    omega (arith, most)

-- one more sample
pub rows_of-push : (channels count : ℕ) (values row : List ℤ)
    → length values ≡ count * channels → length row ≡ channels
    → rows_of channels (suc count) (values ++ row) ≡ rows_of channels count values ++ row ∷ []
rows_of-push channels zero [] row v r =
    ap (λ (xs : List ℤ). xs ∷ []) (ap (λ (n : ℕ). take n row) (sym r) ∙ take-length row)
rows_of-push channels zero (x ∷ values) row v r = absurd (omega arith)
rows_of-push channels (suc count) values row v r =
    let first : channels ≤ length values = omega (arith, v) in
    let left : length (drop channels values) ≡ count * channels = omega (arith, v, length-drop channels values) in
    let head = take-append-le channels values row first in
    let tail =
    ap (λ (xs : List ℤ). rows_of channels (suc count) xs) (drop-append-le channels values row first)
    ∙ rows_of-push channels count (drop channels values) row left r in
    cc

pub rows_of-pushed : (channels count : ℕ) (values row pushed : List ℤ)
    → length values ≡ count * channels → length row ≡ channels → pushed ≡ values ++ row
    → rows_of channels (count + 1) pushed ≡ rows_of channels count values ++ row ∷ []
rows_of-pushed channels count values row pushed v r is =
    ap (λ (xs : List ℤ). rows_of channels (count + 1) xs) is
    ∙ ap (λ (n : ℕ). rows_of channels n (values ++ row)) (add-one count)
    ∙ rows_of-push channels count values row v r

-- a sample more has room
pub room-more : (channels count room len : ℕ) → count < room → len ≡ channels
    → count * channels + len ≤ room * channels
room-more channels count room len less is =
    let next : (count + 1) * channels ≤ room * channels = mul-le-mul_right channels (omega arith) in
    omega (arith, next)

-- a sum of values whose number is that of all samples stays within 128 bits
pub total-fits : (n room channels : ℕ) → n ≤ room → room * channels < 2 ^ 64 → n * (channels * 2 ^ 63) + 2 ^ 63 ≤ 2 ^ 127
total-fits n room channels le small =
    let most : n * channels ≤ room * channels = mul-le-mul_right channels le in
    let few : n * channels + 1 ≤ 2 ^ 64 = omega (arith, most, small) in
    let scaled : (n * channels + 1) * 2 ^ 63 ≤ 2 ^ 64 * 2 ^ 63 = mul-le-mul_right (2 ^ 63) few in
    omega (arith, scaled, mul_assoc n channels (2 ^ 63))

pub total-more : (n channels : ℕ) → (n + 1) * (channels * 2 ^ 63) ≡ n * (channels * 2 ^ 63) + channels * 2 ^ 63
total-more n channels = omega arith
