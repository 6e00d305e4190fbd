-- Sums, term by term, and how large they may be.
use Rattle.std.proofs.Common.{◌≡◌, ◌∙◌, ap, ℕ, zero, suc, ◌+◌, ◌*◌, ◌<◌, ◌≤◌, ℤ, pos, ◌+ℤ◌, unsigned_abs, Bool, if◌then◌else◌, List, [], ◌∷◌, ◌++◌, length, take, get_or, add-one, refl, arith}
use Rattle.std.proofs.lemmas.Int.{ints}
use Rattle.std.proofs.lemmas.List.{take_more}
use Rattle.emtp_case.specs.NodeRows.{is_member, node_at}
use Rattle.emtp_case.specs.Sums.{sum_below, sum_upto, total}
use Rattle.emtp_case.specs.declared.case.Parts.{Parts}
use Rattle.emtp_case.specs.declared.row_kind.RowKind.{RowKind}

-- ---- over numbers

pub sum_below-more : (n : ℕ) (f : ℕ → ℤ) → sum_below (n + 1) f ≡ sum_below n f +ℤ f n
sum_below-more n f = rw add-one refl

pub sum_upto-below : (n : ℕ) (f : ℕ → ℤ) → sum_below (n + 1) f ≡ sum_upto n f
sum_upto-below zero f = omega (arith, ints)
sum_upto-below (suc n) f =
    let here = sum_upto-below n f in
    let more = sum_below-more (suc n) f in
    let e : sum_below (suc n) f ≡ sum_upto n f = next n f ∙ here in
    more ∙ ap (λ z. z +ℤ f (suc n)) e
  where
    next : (n : ℕ) (f : ℕ → ℤ) → sum_below (suc n) f ≡ sum_below (n + 1) f
    next n f = rw add-one refl

pub sum_below_small : (n : ℕ) (f : ℕ → ℤ) (limit : ℕ) → ((k : ℕ) → k < n → unsigned_abs (f k) ≤ limit) → unsigned_abs (sum_below n f) ≤ n * limit
sum_below_small zero f limit small = omega (arith, ints)
sum_below_small (suc n) f limit small =
    let here : unsigned_abs (f n) ≤ limit = small n (omega arith) in
    let before : unsigned_abs (sum_below n f) ≤ n * limit = sum_below_small n f limit (λ k below. small k (omega (arith, below))) in
    omega (arith, ints, here, before)

pub sum_below_same : (n : ℕ) (f g : ℕ → ℤ) → ((k : ℕ) → k < n → f k ≡ g k) → sum_below n f ≡ sum_below n g
sum_below_same zero f g same = refl
sum_below_same (suc n) f g same =
    let here : f n ≡ g n = same n (omega arith) in
    let before : sum_below n f ≡ sum_below n g = sum_below_same n f g (λ k below. same k (omega (arith, below))) in
    cc

pub sum_upto_same : (n : ℕ) (f g : ℕ → ℤ) → ((k : ℕ) → k ≤ n → f k ≡ g k) → sum_upto n f ≡ sum_upto n g
sum_upto_same zero f g same = same 0 (omega arith)
sum_upto_same (suc n) f g same =
    let here : f (suc n) ≡ g (suc n) = same (suc n) (omega arith) in
    let before : sum_upto n f ≡ sum_upto n g = sum_upto_same n f g (λ k below. same k (omega (arith, below))) in
    cc

-- ---- over lists

pub total-append : {X : Type 0} (f : X → ℤ) (xs : List X) (x : X) → total f (xs ++ x ∷ []) ≡ total f xs +ℤ f x
total-append f [] x = omega (arith, ints)
total-append f (y ∷ xs) x = omega (arith, ints, total-append f xs x)

pub total-more : {X : Type 0} (f : X → ℤ) (xs : List X) (i : ℕ) (d : X) → i < length xs → total f (take (i + 1) xs) ≡ total f (take i xs) +ℤ f (get_or xs i d)
total-more f xs i d below = ap (total f) (take_more xs i d below) ∙ total-append f (take i xs) (get_or xs i d)

pub total_small : {X : Type 0} (f : X → ℤ) (limit : ℕ) → ((x : X) → unsigned_abs (f x) ≤ limit) → (xs : List X) → unsigned_abs (total f xs) ≤ length xs * limit
total_small f limit small [] = omega (arith, ints)
total_small f limit small (x ∷ xs) = omega (arith, ints, small x, total_small f limit small xs)

pub one_more : (s r a b t : ℤ) → s ≡ a → r ≡ b → t ≡ a +ℤ b → s +ℤ r ≡ t
one_more s r a b t is here more = omega (arith, ints, is, here, more)

-- one number more of a sum
pub sum_more : (F : ℕ → ℤ) (k : ℕ) (before amount after : ℤ) → amount ≡ F k → before ≡ sum_below k F → after ≡ before +ℤ amount → after ≡ sum_below (k + 1) F
sum_more F k before amount after is so_far added =
    let more = sum_below-more k F in
    omega (arith, ints, is, so_far, added, more)

-- one node of a group more, where f says what a node gives
pub member_more : (f : ℕ → ℤ) (kinds : List RowKind) (case : Parts) (i k node : ℕ) (member : Bool) (before amount after : ℤ) → member ≡ is_member kinds i k → node ≡ node_at case k → amount ≡ (if member then f node else pos 0)
    → before ≡ sum_below k (λ k. if is_member kinds i k then f (node_at case k) else pos 0) → after ≡ before +ℤ amount → after ≡ sum_below (k + 1) (λ k. if is_member kinds i k then f (node_at case k) else pos 0)
member_more f kinds case i k node member before amount after is there value so_far added =
    let F : ℕ → ℤ = λ k. if is_member kinds i k then f (node_at case k) else pos 0 in
    let here : amount ≡ F k = value ∙ ap (λ b. if b then f node else pos 0) is ∙ ap (λ n. if is_member kinds i k then f n else pos 0) there in
    sum_more F k before amount after here so_far added
