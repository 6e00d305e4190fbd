-- Lists of numbers in order: one list has one order.
use Rattle.emtp_case.specs.RowOrder.{put_in}
use Rattle.std.proofs.Common.{◌∙◌, add-one, add-zero, ap, arith, subst, sym}
use Rattle.std.proofs.lemmas.Bool.{eq-eqb, eqb-true, true≢false}
use Rattle.std.proofs.lemmas.List.Elements.{All-cons, All-head, All-nil, All-tail, All-weaker}
use Rattle.std.proofs.lemmas.List.Sorted.{IsPermutation-cons, IsPermutation-refl, IsPermutation-swap, IsPermutation-to_front, IsPermutation-trans, sorted_far}
use Rattle.std.proofs.lemmas.List.Sums.{sum_by-cons}
use Rattle.std.specs.Cmp.{IsStrictWeakOrder}
use Rattle.std.specs.List.{range_with_len}
use Rattle.std.specs.List.Sorted.{IsPermutation, IsSortedBy}
use Rattle.std.specs.Prelude.{◌≡◌, ◌+◌, ◌<◌, ◌≤◌, ◌∷◌, ◌++◌, ◌==◌, if◌then◌else◌, [], All, Bool, List, count_by, false, length, refl, slice_index_or, suc, sum_by, true, zero, ℕ}

-- an order in which no two numbers tie
pub record IsOrder (lt : ℕ → ℕ → Bool) : Type 0 where
  pub weak : IsStrictWeakOrder lt
  pub exact : (x y : ℕ) → lt x y ≡ false → lt y x ≡ false → x ≡ y

-- no number goes before one that stands before it
abbrev pub Rises : (ℕ → ℕ → Bool) → List ℕ → Type 0
Rises lt [] = Unit {0}
Rises lt (x ∷ xs) = All (λ y. lt y x ≡ false) xs × Rises lt xs

pub Rises-from_sorted : (lt : ℕ → ℕ → Bool) → IsStrictWeakOrder lt → (xs : List ℕ) → IsSortedBy lt xs → Rises lt xs
Rises-from_sorted lt o [] up = tt
Rises-from_sorted lt o (x ∷ xs) up = (
  λ k d within. sorted_far lt o (x ∷ xs) up 0 (suc k) d (omega arith) (omega arith),
  Rises-from_sorted lt o xs (λ k d low high. let next = up (suc k) d (omega arith) (omega arith) in rw add-one (rw add-one at next)),
)

All-put_in : (lt : ℕ → ℕ → Bool) (P : ℕ → Type 0) (n : ℕ) (ms : List ℕ) → P n → All P ms → All P (put_in lt n ms)
All-put_in lt P n [] here all = All-cons P n [] here all
All-put_in lt P n (m ∷ ms) here all = choose (lt n m) (All-put_in lt P n ms here (All-tail P m ms all))
  where
    choose : (b : Bool) → All P (put_in lt n ms) → All P (if b then n ∷ m ∷ ms else m ∷ put_in lt n ms)
    choose true rest = All-cons P n (m ∷ ms) here all
    choose false rest = All-cons P m (put_in lt n ms) (All-head P m ms all) rest

pub Rises-put_in : (lt : ℕ → ℕ → Bool) → IsStrictWeakOrder lt → (n : ℕ) (ms : List ℕ) → Rises lt ms → Rises lt (put_in lt n ms)
Rises-put_in lt o n [] up = (All-nil _, tt)
Rises-put_in lt o n (m ∷ ms) up = choose (lt n m) refl (Rises-put_in lt o n ms up.1)
  where
    choose : (b : Bool) → lt n m ≡ b → Rises lt (put_in lt n ms) → Rises lt (if b then n ∷ m ∷ ms else m ∷ put_in lt n ms)
    choose true is rest =
        let after : lt m n ≡ false = o.one_way n m is in
        (All-cons (λ y. lt y n ≡ false) m ms after (All-weaker (λ y. lt y m ≡ false) (λ y. lt y n ≡ false) (λ y behind. o.chain y m n behind after) ms up.0), up)
    choose false is rest = (All-put_in lt (λ y. lt y m ≡ false) n ms is up.0, rest)

pub sum_by-put_in : (lt : ℕ → ℕ → Bool) (f : ℕ → ℕ) (n : ℕ) (ms : List ℕ) → sum_by f (put_in lt n ms) ≡ f n + sum_by f ms
sum_by-put_in lt f n [] = sum_by-cons f n []
sum_by-put_in lt f n (m ∷ ms) = choose (lt n m) (sum_by-put_in lt f n ms)
  where
    choose : (b : Bool) → sum_by f (put_in lt n ms) ≡ f n + sum_by f ms → sum_by f (if b then n ∷ m ∷ ms else m ∷ put_in lt n ms) ≡ f n + sum_by f (m ∷ ms)
    choose true rest = sum_by-cons f n (m ∷ ms)
    choose false rest = omega (arith, sum_by-cons f m (put_in lt n ms), sum_by-cons f m ms, rest)

-- how often a number stands in a list
abbrev pub times_in : ℕ → List ℕ → ℕ
times_in v xs = count_by (λ x. x == v) xs

times_in-cons : (v x : ℕ) (xs : List ℕ) → times_in v (x ∷ xs) ≡ (if x == v then 1 else 0) + times_in v xs
times_in-cons v x xs = sum_by-cons (λ y. if y == v then 1 else 0) x xs

times_in-here : (v : ℕ) (xs : List ℕ) → times_in v (v ∷ xs) ≡ 1 + times_in v xs
times_in-here v xs = times_in-cons v v xs ∙ ap (λ (b : Bool). (if b then 1 else 0) + times_in v xs) (eq-eqb v v refl)

-- what holds of all holds of a number that stands there
member_has : (P : ℕ → Type 0) (v : ℕ) (xs : List ℕ) → 1 ≤ times_in v xs → All P xs → P v
member_has P v [] some all = absurd (omega arith)
member_has P v (x ∷ xs) some all = choose (x == v) refl (λ more. member_has P v xs more (All-tail P x xs all))
  where
    choose : (b : Bool) → (x == v) ≡ b → (1 ≤ times_in v xs → P v) → P v
    choose true is rest = subst P (eqb-true x v is) (All-head P x xs all)
    choose false is rest = let one = times_in-cons v x xs ∙ ap (λ (b : Bool). (if b then 1 else 0) + times_in v xs) is in rest (omega (arith, one))

pub times_in-some : (xs : List ℕ) (k d : ℕ) → k < length xs → 1 ≤ times_in (slice_index_or xs k d) xs
times_in-some [] k d within = absurd (omega arith)
times_in-some (x ∷ xs) zero d within = omega (arith, times_in-here x xs)
times_in-some (x ∷ xs) (suc k) d within = omega (arith, times_in-some xs k d (omega arith), times_in-cons (slice_index_or xs k d) x xs)

-- two lists in order that hold each number equally often are the same
pub rises_once : (lt : ℕ → ℕ → Bool) → IsOrder lt → (xs ys : List ℕ) → Rises lt xs → Rises lt ys → ((v : ℕ) → times_in v xs ≡ times_in v ys) → xs ≡ ys
rises_once lt o [] [] up up' same = refl
rises_once lt o [] (y ∷ ys) up up' same = absurd (omega (arith, same y, times_in-here y ys))
rises_once lt o (x ∷ xs) [] up up' same = absurd (omega (arith, same x, times_in-here x xs))
rises_once lt o (x ∷ xs) (y ∷ ys) up up' same =
    let heads : x ≡ y = same_head x y xs ys up.0 up'.0 same in
    ap (λ z. z ∷ xs) heads ∙ ap (λ zs. y ∷ zs) (rises_once lt o xs ys up.1 up'.1 (same_tail x y xs ys heads same))
  where
    same_tail : (x y : ℕ) (xs ys : List ℕ) → x ≡ y → ((v : ℕ) → times_in v (x ∷ xs) ≡ times_in v (y ∷ ys)) → (v : ℕ) → times_in v xs ≡ times_in v ys
    same_tail x y xs ys heads same v =
        let here = times_in-cons v x xs in
        let there = times_in-cons v y ys ∙ ap (λ z. (if z == v then 1 else 0) + times_in v ys) (sym heads) in
        omega (arith, same v, here, there)

    same_head : (x y : ℕ) (xs ys : List ℕ) → All (λ z. lt z x ≡ false) xs → All (λ z. lt z y ≡ false) ys → ((v : ℕ) → times_in v (x ∷ xs) ≡ times_in v (y ∷ ys)) → x ≡ y
    same_head x y xs ys first first' same = choose (x == y) refl
      where
        choose : (b : Bool) → (x == y) ≡ b → x ≡ y
        choose true is = eqb-true x y is
        choose false is =
            let other = times_in-cons y x xs ∙ ap (λ (b : Bool). (if b then 1 else 0) + times_in y xs) is in
            let y_behind : lt y x ≡ false = member_has (λ z. lt z x ≡ false) y xs (omega (arith, other, same y, times_in-here y ys)) first in
            let flipped : (y == x) ≡ false = not_equal (y == x) refl in
            let other' = times_in-cons x y ys ∙ ap (λ (b : Bool). (if b then 1 else 0) + times_in x ys) flipped in
            let x_behind : lt x y ≡ false = member_has (λ z. lt z y ≡ false) x ys (omega (arith, other', same x, times_in-here x xs)) first' in
            o.exact x y x_behind y_behind
          where
            not_equal : (b : Bool) → (y == x) ≡ b → (y == x) ≡ false
            not_equal true e = absurd (true≢false (sym (eq-eqb x y (sym (eqb-true y x e))) ∙ is))
            not_equal false e = e

-- a number that stands there once at most stands at one place
pub one_place : (xs : List ℕ) → ((v : ℕ) → times_in v xs ≤ 1) → (i j : ℕ) → i < j → j < length xs → slice_index_or xs i 0 ≡ slice_index_or xs j 0 → ⊥
one_place [] once i j below within same = omega arith
one_place (x ∷ xs) once zero zero below within same = omega arith
one_place (x ∷ xs) once zero (suc j) below within same =
    let again : 1 ≤ times_in x xs = subst (λ v. 1 ≤ times_in v xs) (sym same) (times_in-some xs j 0 (omega arith)) in
    omega (arith, once x, times_in-here x xs, again)
one_place (x ∷ xs) once (suc i) zero below within same = omega arith
one_place (x ∷ xs) once (suc i) (suc j) below within same =
    one_place xs (λ v. omega (arith, once v, times_in-cons v x xs)) i j (omega arith) (omega arith) same

-- the numbers from a on stand there once
below_range : (v a n : ℕ) → v < a → times_in v (range_with_len a n) ≡ 0
below_range v a zero below = refl
below_range v a (suc n) below =
    let other : (a == v) ≡ false = choose (a == v) refl in
    let split = times_in-cons v a (range_with_len (a + 1) n) ∙ ap (λ (b : Bool). (if b then 1 else 0) + times_in v (range_with_len (a + 1) n)) other in
    omega (arith, split, below_range v (a + 1) n (omega arith))
  where
    choose : (b : Bool) → (a == v) ≡ b → (a == v) ≡ false
    choose true e = absurd (omega (arith, eqb-true a v e))
    choose false e = e

pub range_once : (v a n : ℕ) → times_in v (range_with_len a n) ≤ 1
range_once v a zero = omega arith
range_once v a (suc n) = choose (a == v) refl (range_once v (a + 1) n)
  where
    choose : (b : Bool) → (a == v) ≡ b → times_in v (range_with_len (a + 1) n) ≤ 1 → times_in v (range_with_len a (suc n)) ≤ 1
    choose true e rest =
        let none : times_in v (range_with_len (a + 1) n) ≡ 0 = below_range v (a + 1) n (omega (arith, eqb-true a v e)) in
        let split = times_in-cons v a (range_with_len (a + 1) n) ∙ ap (λ (b : Bool). (if b then 1 else 0) + times_in v (range_with_len (a + 1) n)) e in
        omega (arith, none, split)
    choose false e rest =
        let split = times_in-cons v a (range_with_len (a + 1) n) ∙ ap (λ (b : Bool). (if b then 1 else 0) + times_in v (range_with_len (a + 1) n)) e in
        omega (arith, rest, split)

-- one more number at the end of a range
pub sum_by-range_more : (f : ℕ → ℕ) (a n : ℕ) → sum_by f (range_with_len a (suc n)) ≡ sum_by f (range_with_len a n) + f (a + n)
sum_by-range_more f a zero = sum_by-cons f a [] ∙ omega (arith, ap f (add-zero a))
sum_by-range_more f a (suc n) =
    let next : f (a + 1 + n) ≡ f (a + suc n) = ap f (omega arith) in
    omega (arith, sum_by-cons f a (range_with_len (a + 1) (suc n)), sum_by-cons f a (range_with_len (a + 1) n), sum_by-range_more f (a + 1) n, next)

pub count_by-range_more : (test : ℕ → Bool) (n : ℕ) (b : Bool) → b ≡ test (n + 1) → count_by test (range_with_len 1 (n + 1)) ≡ count_by test (range_with_len 1 n) + (if b then 1 else 0)
count_by-range_more test n b is =
    let more = sum_by-range_more (λ x. if test x then 1 else 0) 1 n in
    let last : (if test (1 + n) then 1 else 0) ≡ (if b then 1 else 0) = ap (λ m. if test m then 1 else 0) (one_more n) ∙ ap (λ (c : Bool). if c then 1 else 0) (sym is) in
    rw add-one (more ∙ ap (λ m. count_by test (range_with_len 1 n) + m) last)
  where
    one_more : (n : ℕ) → 1 + n ≡ n + 1
    one_more n = omega arith

pub Rises-sorted : (lt : ℕ → ℕ → Bool) (xs : List ℕ) → Rises lt xs → IsSortedBy lt xs
Rises-sorted lt xs up = λ k d low high. rw add-one (next xs up k d high)
  where
    next : (xs : List ℕ) → Rises lt xs → (k d : ℕ) → k + 1 < length xs → lt (slice_index_or xs (suc k) d) (slice_index_or xs k d) ≡ false
    next [] up k d high = absurd (omega arith)
    next (x ∷ xs) up zero d high = up.0 0 d (omega arith)
    next (x ∷ xs) up (suc k) d high = next xs up.1 k d (omega arith)

pub IsPermutation-put_in : (lt : ℕ → ℕ → Bool) (n : ℕ) (ms : List ℕ) → IsPermutation (n ∷ ms) (put_in lt n ms)
IsPermutation-put_in lt n [] = IsPermutation-refl (n ∷ [])
IsPermutation-put_in lt n (m ∷ ms) = choose (lt n m) (IsPermutation-put_in lt n ms)
  where
    choose : (b : Bool) → IsPermutation (n ∷ ms) (put_in lt n ms) → IsPermutation (n ∷ m ∷ ms) (if b then n ∷ m ∷ ms else m ∷ put_in lt n ms)
    choose true rest = IsPermutation-refl (n ∷ m ∷ ms)
    choose false rest =
        let exchanged : IsPermutation (n ∷ m ∷ ms) (m ∷ n ∷ ms) = IsPermutation-swap (n ∷ m ∷ ms) (m ∷ n ∷ ms) 0 1 (omega arith) (omega arith) refl in
        IsPermutation-trans (n ∷ m ∷ ms) (m ∷ n ∷ ms) (m ∷ put_in lt n ms) exchanged (IsPermutation-cons m (n ∷ ms) (put_in lt n ms) rest)

range_more : (a n : ℕ) → range_with_len a (suc n) ≡ range_with_len a n ++ (a + n) ∷ []
range_more a zero = ap (λ x. x ∷ []) (sym (add-zero a))
range_more a (suc n) = ap (λ xs. a ∷ xs) (range_more (a + 1) n ∙ ap (λ x. range_with_len (a + 1) n ++ x ∷ []) (shift a n))
  where
    shift : (a n : ℕ) → a + 1 + n ≡ a + suc n
    shift a n = omega arith

pub IsPermutation-range_more : (n : ℕ) → IsPermutation (range_with_len 1 (suc n)) (suc n ∷ range_with_len 1 n)
IsPermutation-range_more n =
    let last : 1 + n ≡ suc n = omega arith in
    subst (λ xs. IsPermutation xs (suc n ∷ range_with_len 1 n)) (sym (range_more 1 n ∙ ap (λ x. range_with_len 1 n ++ x ∷ []) last)) (IsPermutation-to_front (range_with_len 1 n) (suc n))
