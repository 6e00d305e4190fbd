-- The items of a row, one switch after another.
use Rattle.std.proofs.Common.{◌≡◌, ◌∙◌, ap, sym, ℕ, ◌+◌, ◌<◌, ◌≤◌, List, [], ◌∷◌, ◌++◌, drop, length, slice_index_or, Result, Ok, Err, refl}
use Rattle.std.proofs.lemmas.List.{append-nil, append_assoc, at_drop_all, at_drop_more}
use Rattle.emtp_case.specs.declared.switch.Times.{Times}
use Rattle.emtp_batch.specs.Row.{cons_result, times_from, times_at}

-- items in front of others, where those are right
abbrev pub append_result : {A B : Type 0} → List A → Result (List A) B → Result (List A) B
append_result front (Ok xs) = Ok (front ++ xs)
append_result front (Err wrong) = Err wrong

pub append_result-one : {A B : Type 0} (front : List A) (x : A) (r : Result (List A) B) → append_result (front ++ x ∷ []) r ≡ append_result front (cons_result (Ok x) r)
append_result-one front x (Ok xs) = ap Ok (append_assoc front (x ∷ []) xs)
append_result-one front x (Err wrong) = refl

pub append_result-none : {A B : Type 0} (r : Result (List A) B) → append_result [] r ≡ r
append_result-none (Ok xs) = refl
append_result-none (Err wrong) = refl

-- no switch has its times yet
pub row_starts : (front : List Times) (whole : Result (List Times) ℕ) → front ≡ [] → append_result front whole ≡ whole
row_starts front whole none = ap (λ ts. append_result ts whole) none ∙ append_result-none whole

-- one switch more has its times
pub row_step : (front new : List Times) (at : ℕ) (cards : List Times) (index : ℕ) (d : Times) (items left : List (List ℕ)) (t : Times) (whole : Result (List Times) ℕ)
    → index < length cards → times_at at (slice_index_or cards index d) items ≡ Ok t → left ≡ drop 2 items → new ≡ front ++ t ∷ []
    → append_result front (times_from at (drop index cards) items) ≡ whole → append_result new (times_from (at + 2) (drop (index + 1) cards) left) ≡ whole
row_step front new at cards index d items left t whole within is behind pushed was =
    let more = drop (index + 1) cards in
    let others = times_from (at + 2) more (drop 2 items) in
    ap (λ ts. append_result ts (times_from (at + 2) more left)) pushed
    ∙ ap (λ ls. append_result (front ++ t ∷ []) (times_from (at + 2) more ls)) behind
    ∙ append_result-one front t others
    ∙ ap (λ r. append_result front (cons_result r others)) (sym is)
    ∙ sym (at_drop_more (λ cs. append_result front (times_from at cs items)) cards index d within)
    ∙ was

-- an item of a switch is wrong or lacking
pub row_stops : (front : List Times) (at : ℕ) (cards : List Times) (index : ℕ) (d : Times) (items : List (List ℕ)) (item : ℕ) (whole : Result (List Times) ℕ)
    → index < length cards → times_at at (slice_index_or cards index d) items ≡ Err item
    → append_result front (times_from at (drop index cards) items) ≡ whole → whole ≡ Err item
row_stops front at cards index d items item whole within is was =
    let others = times_from (at + 2) (drop (index + 1) cards) (drop 2 items) in
    sym was
    ∙ at_drop_more (λ cs. append_result front (times_from at cs items)) cards index d within
    ∙ ap (λ r. append_result front (cons_result r others)) is

-- each switch has its times, and no item is left
pub row_ends : (front : List Times) (at : ℕ) (cards : List Times) (index : ℕ) (items : List (List ℕ)) (whole : Result (List Times) ℕ)
    → length cards ≤ index → items ≡ [] → append_result front (times_from at (drop index cards) items) ≡ whole → whole ≡ Ok front
row_ends front at cards index items whole all none was =
    sym was
    ∙ at_drop_all (λ cs. append_result front (times_from at cs items)) cards index all
    ∙ ap (λ ls. append_result front (times_from at [] ls)) none
    ∙ ap Ok (append-nil front)

-- each switch has its times, and an item is left
pub row_exceeds : (front : List Times) (at : ℕ) (cards : List Times) (index : ℕ) (items : List (List ℕ)) (item : List ℕ) (more : List (List ℕ)) (whole : Result (List Times) ℕ)
    → length cards ≤ index → items ≡ item ∷ more → append_result front (times_from at (drop index cards) items) ≡ whole → whole ≡ Err at
row_exceeds front at cards index items item more whole all some was =
    sym was
    ∙ at_drop_all (λ cs. append_result front (times_from at cs items)) cards index all
    ∙ ap (λ ls. append_result front (times_from at [] ls)) some
