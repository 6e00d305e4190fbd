-- One column, one record, one line more.
use Rattle.std.proofs.Common.{◌≡◌, ◌++◌, ◌∙◌, ◌+◌, ◌≤◌, ◌⊎◌, inl, inr, min, length, arith, sym, ap, refl, subst, List, [], ◌∷◌, ℕ, zero, suc, append_assoc, take, drop, add-one, drop-cons}
use Rattle.std.specs.Prelude.{Some, slice_get}
use Rattle.std.proofs.lemmas.List.{drop_all}
use Rattle.std.proofs.lemmas.Option.{slice_get_within, get_or_from_slice_get}
use Rattle.emtp_warnings.proofs.Adding.{rewritten, then}
use Rattle.emtp_warnings.specs.AddsTo.{AddsTo}
use Rattle.emtp_warnings.specs.ColumnWarnings.{at_column, first_to, first_with, run_to, run_with, up_to_column}
use Rattle.emtp_warnings.specs.Warnings.{count_on, line_warnings, warnings_from}
use Rattle.emtp_warnings.specs.declared.finding.Warning.{Warning}
use Rattle.emtp_walk.specs.declared.kind.LineReading.{LineReading}

-- ---- columns

run_turn : (ruler line : List ℕ) (before : ℕ) → run_with ruler line (before + 1) (run_to ruler line before) ≡ run_to ruler line (before + 1)
run_turn ruler line before = rw add-one refl

pub run-more : (ruler line : List ℕ) (before run next : ℕ) → run ≡ run_to ruler line before → next ≡ run_with ruler line (before + 1) run → next ≡ run_to ruler line (before + 1)
run-more ruler line before run next same is = is ∙ ap (run_with ruler line (before + 1)) same ∙ run_turn ruler line before

first_turn : (ruler : List ℕ) (before : ℕ) → first_with ruler (before + 1) (first_to ruler before) ≡ first_to ruler (before + 1)
first_turn ruler before =
    let e : suc before ≡ before + 1 = omega arith in subst (λ (n : ℕ). first_with ruler n (first_to ruler before) ≡ first_to ruler n) e refl

pub first-more : (ruler : List ℕ) (before first next : ℕ) → first ≡ first_to ruler before → next ≡ first_with ruler (before + 1) first → next ≡ first_to ruler (before + 1)
first-more ruler before first next same is = is ∙ ap (first_with ruler (before + 1)) same ∙ first_turn ruler before

column_turn : (ruler : List ℕ) (number : ℕ) (line : List ℕ) (before : ℕ)
    → up_to_column ruler number line before ++ at_column ruler number line (before + 1) (run_to ruler line before) (first_to ruler before) ≡ up_to_column ruler number line (before + 1)
column_turn ruler number line before = rw add-one refl

pub column-more : {old mid new : List Warning} (ruler : List ℕ) (number : ℕ) (line : List ℕ) (before run first : ℕ) → run ≡ run_to ruler line before → first ≡ first_to ruler before
    → AddsTo old (up_to_column ruler number line before) mid → AddsTo mid (at_column ruler number line (before + 1) run first) new → AddsTo old (up_to_column ruler number line (before + 1)) new
column-more ruler number line before run first same begins front here =
    rewritten
    (ap (λ (r : ℕ). up_to_column ruler number line before ++ at_column ruler number line (before + 1) r first) same
    ∙ ap (λ (f : ℕ). up_to_column ruler number line before ++ at_column ruler number line (before + 1) (run_to ruler line before) f) begins
    ∙ column_turn ruler number line before)
    (then front here)

-- ---- lines

pub drop_next : {A : Type 0} (xs : List A) (at : ℕ) (x : A) → slice_get xs at ≡ Some x → drop at xs ≡ x ∷ drop (at + 1) xs
drop_next xs at x h =
    rw (add-one) (drop-cons xs at x (slice_get_within xs at x h) ∙ ap (λ y. y ∷ drop (suc at) xs) (get_or_from_slice_get xs at x x h))

-- what is left from a line on: what is on this line, and what is left behind it
turn : (readings : List LineReading) (cards : List (List ℕ)) (at : ℕ) (kind : LineReading) (line : List ℕ) (rest out whole : List Warning) → slice_get readings at ≡ Some kind → slice_get cards at ≡ Some line
    → out ++ warnings_from (at + 1) (drop at readings) (drop at cards) rest ≡ whole
    → ((out ++ line_warnings (at + 1) kind.kind line) ++ take (count_on (at + 1) rest) rest)
    ++ warnings_from (at + 1 + 1) (drop (at + 1) readings) (drop (at + 1) cards) (drop (count_on (at + 1) rest) rest) ≡ whole
turn readings cards at kind line rest out whole read found h =
    let here = line_warnings (at + 1) kind.kind line in
    let records = take (count_on (at + 1) rest) rest in
    let behind = warnings_from (at + 1 + 1) (drop (at + 1) readings) (drop (at + 1) cards) (drop (count_on (at + 1) rest) rest) in
    append_assoc (out ++ here) records behind
    ∙ append_assoc out here (records ++ behind)
    ∙ sym (ap (λ (lines : List (List ℕ)). out ++ warnings_from (at + 1) (kind ∷ drop (at + 1) readings) lines rest) (drop_next cards at line found))
    ∙ sym (ap (λ (ks : List LineReading). out ++ warnings_from (at + 1) ks (drop at cards) rest) (drop_next readings at kind read))
    ∙ h

pub line-more : (readings : List LineReading) (cards : List (List ℕ)) (at count : ℕ) (kind : LineReading) (line : List ℕ) (rest front back out mid new whole : List Warning)
    → slice_get readings at ≡ Some kind → slice_get cards at ≡ Some line → count ≡ count_on (at + 1) rest → front ≡ take count rest → back ≡ drop count rest
    → out ++ warnings_from (at + 1) (drop at readings) (drop at cards) rest ≡ whole
    → AddsTo out (line_warnings (at + 1) kind.kind line) mid → new ≡ mid ++ front
    → new ++ warnings_from (at + 1 + 1) (drop (at + 1) readings) (drop (at + 1) cards) back ≡ whole
line-more readings cards at count kind line rest front back out mid new whole read found counted is_front is_back h added is_new =
    let here = line_warnings (at + 1) kind.kind line in
    let front' : front ≡ take (count_on (at + 1) rest) rest = is_front ∙ ap (λ (n : ℕ). take n rest) counted in
    let back' : back ≡ drop (count_on (at + 1) rest) rest = is_back ∙ ap (λ (n : ℕ). drop n rest) counted in
    let new' : new ≡ (out ++ here) ++ take (count_on (at + 1) rest) rest = is_new ∙ ap (λ (t : List Warning). t ++ front) added.is ∙ ap (λ (t : List Warning). (out ++ here) ++ t) front' in
    ap (λ (t : List Warning). t ++ warnings_from (at + 1 + 1) (drop (at + 1) readings) (drop (at + 1) cards) back) new'
    ∙ ap (λ (r : List Warning). ((out ++ here) ++ take (count_on (at + 1) rest) rest) ++ warnings_from (at + 1 + 1) (drop (at + 1) readings) (drop (at + 1) cards) r) back'
    ∙ turn readings cards at kind line rest out whole read found h

-- no line is left, or of no line it is known as what it is read
pub none-left : (readings : List LineReading) (cards : List (List ℕ)) (at number : ℕ) (rest : List Warning) → (length cards ≤ at) ⊎ (length readings ≤ at)
    → warnings_from number (drop at readings) (drop at cards) rest ≡ rest
none-left readings cards at number rest (inl end) = ap (λ (ls : List (List ℕ)). warnings_from number (drop at readings) ls rest) (drop_all at cards end) ∙ no_lines (drop at readings) number rest
  where
    no_lines : (readings : List LineReading) (number : ℕ) (rest : List Warning) → warnings_from number readings [] rest ≡ rest
    no_lines [] number rest = refl
    no_lines (kind ∷ readings) number rest = refl
none-left readings cards at number rest (inr end) = ap (λ (ks : List LineReading). warnings_from number ks (drop at cards) rest) (drop_all at readings end) ∙ no_readings (drop at cards) number rest
  where
    no_readings : (lines : List (List ℕ)) (number : ℕ) (rest : List Warning) → warnings_from number [] lines rest ≡ rest
    no_readings [] number rest = refl
    no_readings (line ∷ lines) number rest = refl

-- one of two numbers is the lesser one
pub lesser : (a b : ℕ) → (a ≤ min a b) ⊎ (b ≤ min a b)
lesser zero b = inl (omega arith)
lesser (suc a) zero = inr (omega arith)
lesser (suc a) (suc b) = further (lesser a b)
  where
    further : (a ≤ min a b) ⊎ (b ≤ min a b) → (suc a ≤ min (suc a) (suc b)) ⊎ (suc b ≤ min (suc a) (suc b))
    further (inl h) = inl (omega (arith, h))
    further (inr h) = inr (omega (arith, h))

pub all-read : (readings : List LineReading) (cards : List (List ℕ)) (at : ℕ) (rest out new whole : List Warning) → min (length cards) (length readings) ≤ at
    → out ++ warnings_from (at + 1) (drop at readings) (drop at cards) rest ≡ whole → new ≡ out ++ rest → new ≡ whole
all-read readings cards at rest out new whole end h is_new =
    is_new ∙ sym (ap (λ (t : List Warning). out ++ t) (none-left readings cards at (at + 1) rest (past (lesser (length cards) (length readings))))) ∙ h
  where
    past : (length cards ≤ min (length cards) (length readings)) ⊎ (length readings ≤ min (length cards) (length readings)) → (length cards ≤ at) ⊎ (length readings ≤ at)
    past (inl k) = inl (omega (arith, k, end))
    past (inr k) = inr (omega (arith, k, end))
