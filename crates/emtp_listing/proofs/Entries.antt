-- Entries of numbers, of which names and units are texts.
use Rattle.std.proofs.Common.{◌≡◌, ◌++◌, ◌∷◌, ◌+◌, ◌^◌, ◌<◌, ℕ, ℤ, List, arith, codes, decimal, refl, unsigned_abs}
use Rattle.std.proofs.lemmas.List.{append_cancel_right}
use Rattle.emtp_listing.specs.Entry.{count_entry, figure_entry, limited_entry, number_entry, place_entry}
use Rattle.emtp_listing.specs.Law.{IsFree}
use Rattle.emtp_listing.proofs.Marks.{IsMark, IsText, blank-text}
use Rattle.emtp_listing.proofs.Cut.{free-both}
use Rattle.emtp_listing.proofs.Numbers.{count-free, count-same, decimal-free, figure-free}

pub figure-marked : (b : ℕ) (name : List ℕ) (places : ℕ) (tail : List ℕ) (x : ℤ) → IsMark b → IsText name → IsText tail → unsigned_abs x < 2 ^ 64 → IsFree b (figure_entry name places tail x)
figure-marked b name places tail x mark named ended small = figure-free b name places tail x mark.low (mark.texts name named) (mark.texts tail ended) small

pub number-marked : (b : ℕ) (name : List ℕ) (places : ℕ) (unit : List ℕ) (x : ℤ) → IsMark b → IsText name → IsText unit → unsigned_abs x < 2 ^ 64 → IsFree b (number_entry name places unit x)
number-marked b name places unit x mark named measured small = figure-marked b name places (32 ∷ unit) x mark named (blank-text unit measured) small

pub count-marked : (b : ℕ) (name : List ℕ) (n : ℕ) → IsMark b → IsText name → n < 2 ^ 64 → IsFree b (count_entry name n)
count-marked b name n mark named small = count-free b name n mark.low (mark.texts name named) small

pub limited-marked : (b : ℕ) (name : List ℕ) (limit n : ℕ) → IsMark b → IsText name → limit < 2 ^ 64 → n < 2 ^ 64 → IsFree b (limited_entry name limit n)
limited-marked b name limit n mark named few small =
    free-both b (count_entry name n ++ codes " of ") (decimal limit)
    (free-both b (count_entry name n) (codes " of ") (count-marked b name n mark named small) (mark.texts (codes " of ") refl))
    (decimal-free b limit (omega (arith, mark.low)) few)

pub limited-same : (name : List ℕ) (limit m n : ℕ) → m < 2 ^ 64 → n < 2 ^ 64 → limited_entry name limit m ≡ limited_entry name limit n → m ≡ n
limited-same name limit m n sm sn e =
    let front = append_cancel_right (count_entry name m ++ codes " of ") (count_entry name n ++ codes " of ") (decimal limit) e in
    count-same name m n sm sn (append_cancel_right (count_entry name m) (count_entry name n) (codes " of ") front)

pub place-marked : (b : ℕ) (name : List ℕ) (n : ℕ) → IsMark b → IsText name → n < 2 ^ 63 → IsFree b (place_entry name n)
place-marked b name n mark named small = count-marked b name (n + 1) mark named (omega (arith, small))
