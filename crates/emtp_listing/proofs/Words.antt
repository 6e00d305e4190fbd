-- Times, variables and controls are free of marks, and known by their text.
use Rattle.emtp_fix.specs.declared.limit.TheConstants.{LARGEST_TIME}
use Rattle.std.proofs.Common.{◌≡◌, ◌++◌, ◌∙◌, sym, ap, refl, arith, ◌^◌, ◌<◌, ◌≤◌, List, [], ◌∷◌, ℕ, ℤ, unsigned_abs, length, get_or, drop, subst, codes, Option, Some, None, append_assoc}
use Rattle.std.specs.Prelude.{All}
use Rattle.std.specs.Option.{ForSome}
use Rattle.std.proofs.lemmas.List.{append_cancel_left}
use Rattle.std.proofs.lemmas.List.Elements.{All-get_or}
use Rattle.emtp_case.specs.held.Name.{IsName}
use Rattle.emtp_fix.specs.Decimal.{fixed_text}
use Rattle.emtp_listing.specs.Entry.{number_entry, time_entry, word_entry, variable_entry, choice_entry}
use Rattle.emtp_listing.specs.Law.{IsFree, AreApart}
use Rattle.emtp_listing.proofs.Cut.{cut}
use Rattle.emtp_listing.proofs.Entries.{number-marked}
use Rattle.emtp_listing.proofs.Marks.{IsMark, IsText, name-text, within, word-free, word-same}
use Rattle.emtp_listing.proofs.Numbers.{fixed-free, number-same}

abbrev pub IsSmallTime : Option ℤ → Type 0
IsSmallTime time = ForSome time (λ t. unsigned_abs t ≤ LARGEST_TIME)

pub time-free : (b : ℕ) (name : List ℕ) (time : Option ℤ) → IsMark b → IsText name → IsSmallTime time → IsFree b (time_entry name time)
time-free b name None mark named small = word-free b name (codes "never") mark named refl
time-free b name (Some t) mark named small = number-marked b name 12 (codes "s") t mark named refl (let less : unsigned_abs t ≤ LARGEST_TIME = small t refl in omega arith)

not_never : (name : List ℕ) (t : ℤ) → unsigned_abs t < 2 ^ 64 → word_entry name (codes "never") ≡ number_entry name 12 (codes "s") t → ⊥
not_never name t small e =
    let whole = append_cancel_left name (61 ∷ codes "never") (61 ∷ (fixed_text t 12 ++ 32 ∷ codes "s")) (e ∙ append_assoc name (61 ∷ fixed_text t 12) (32 ∷ codes "s")) in
    let parts = cut 32 (codes "never") (fixed_text t 12) [] (32 ∷ codes "s") refl (fixed-free 32 t 12 (omega arith) small) tt refl (ap (λ (l : List ℕ). drop 1 l) whole) in
    let l : 0 ≡ 2 = ap length parts.1 in
    omega (arith, l)

pub time-same : (name : List ℕ) (x y : Option ℤ) → IsSmallTime x → IsSmallTime y → time_entry name x ≡ time_entry name y → x ≡ y
time-same name None None sx sy e = refl
time-same name None (Some y) sx sy e = absurd (not_never name y (within y (sy y refl)) e)
time-same name (Some x) None sx sy e = absurd (not_never name x (within x (sx x refl)) (sym e))
time-same name (Some x) (Some y) sx sy e = ap (λ (t : ℤ). Some t) (number-same name 12 (codes "s") x y (within x (sx x refl)) (within y (sy y refl)) e)

pub variable-free : (b : ℕ) (name : List ℕ) (vars : List (List ℕ)) (v : ℕ) → IsMark b → IsText name → All IsName vars → v < length vars → IsFree b (variable_entry name vars v)
variable-free b name vars v mark named names there = word-free b name (get_or vars v []) mark named (name-text (get_or vars v []) (All-get_or IsName vars v [] there names))

pub variable-same : (name : List ℕ) (vars : List (List ℕ)) (v w : ℕ) → AreApart vars → v < length vars → w < length vars → variable_entry name vars v ≡ variable_entry name vars w → v ≡ w
variable-same name vars v w apart there there_w e = apart v w there there_w (word-same name (get_or vars v []) (get_or vars w []) e)

pub choice-free : (b : ℕ) (name absent : List ℕ) (vars : List (List ℕ)) (c : Option ℕ) → IsMark b → IsText name → IsText absent → All IsName vars → ForSome c (λ v. v < length vars)
    → IsFree b (choice_entry name absent vars c)
choice-free b name absent vars None mark named is names there = word-free b name absent mark named is
choice-free b name absent vars (Some v) mark named is names there = variable-free b name vars v mark named names (there v refl)

not_absent : (name absent : List ℕ) (vars : List (List ℕ)) (v : ℕ) → 6 < length absent → All IsName vars → v < length vars → word_entry name absent ≡ variable_entry name vars v → ⊥
not_absent name absent vars v long names there e =
    let short = (All-get_or IsName vars v [] there names).short in
    let l : length absent ≡ length (get_or vars v []) = ap length (word-same name absent (get_or vars v []) e) in
    omega (arith, short, long, l)

pub choice-same : (name absent : List ℕ) (vars : List (List ℕ)) (c d : Option ℕ) → 6 < length absent → All IsName vars → AreApart vars → ForSome c (λ v. v < length vars) → ForSome d (λ v. v < length vars)
    → choice_entry name absent vars c ≡ choice_entry name absent vars d → c ≡ d
choice-same name absent vars None None long names apart hc hd e = refl
choice-same name absent vars None (Some d) long names apart hc hd e = absurd (not_absent name absent vars d long names (hd d refl) e)
choice-same name absent vars (Some c) None long names apart hc hd e = absurd (not_absent name absent vars c long names (hc c refl) (sym e))
choice-same name absent vars (Some c) (Some d) long names apart hc hd e = ap (λ (v : ℕ). Some v) (variable-same name vars c d apart (hc c refl) (hd d refl) e)

-- a choice among so many variables is one of these
pub some-there : (n m : ℕ) (c : Option ℕ) → n ≡ m → ForSome c (λ v. v < n) → ForSome c (λ v. v < m)
some-there n m c same h = subst (λ (k : ℕ). ForSome c (λ v. v < k)) same h
