-- The nodes of a case in order.
use Rattle.emtp_case.proofs.Ordered.{IsOrder, IsPermutation-put_in, IsPermutation-range_more, Rises, Rises-from_sorted, Rises-put_in, Rises-sorted, rises_once, sum_by-put_in, sum_by-range_more, times_in}
use Rattle.emtp_case.specs.RowOrder.{Rows, class_of, class_rank, goes_before, has_source, in_order, key_cmp, key_of, may_change, order_of}
use Rattle.emtp_case.specs.held.RowOrder.{IsRowOrder}
use Rattle.emtp_case.specs.declared.case.Parts.{Parts}
use Rattle.emtp_case.specs.declared.row_order.Class.TheVariants.{Changing, Constant, Source as SourceClass}
use Rattle.emtp_case.specs.declared.row_order.Key.{Key}
use Rattle.std.proofs.Common.{◌∙◌, ap, arith, rules, subst, sym}
use Rattle.std.proofs.lemmas.Bool.{true≢false}
use Rattle.std.proofs.lemmas.Bool.Decides.{nat_tests}
use Rattle.std.proofs.lemmas.List.{get_or-map, length-map}
use Rattle.std.proofs.lemmas.List.Elements.{All-cons, All-head, All-nil, All-tail}
use Rattle.std.proofs.lemmas.List.FromFn.{length-range_with_len, map-range_with_len_more}
use Rattle.std.proofs.lemmas.List.Sorted.{All-permutation, IsPermutation-cons, IsPermutation-map, IsPermutation-refl, IsPermutation-trans, length_permutation, ranks_by, sum_by-IsPermutation}
use Rattle.std.proofs.lemmas.List.Sums.{sum_by-cons}
use Rattle.std.proofs.lemmas.Map.Lookups.{exact_unsigned}
use Rattle.std.specs.Cmp.{IsTotalOrder}
use Rattle.std.specs.Cmp.Rules.{comparing}
use Rattle.std.specs.List.{range_with_len}
use Rattle.std.specs.List.Sorted.{IsPermutation, IsSorted, IsSortedByKey}
use Rattle.std.specs.Ordering.{is_lt, nat_cmp, ordering_reverse, ordering_then}
use Rattle.std.specs.Prelude.{◌≡◌, ◌+◌, ◌<◌, ◌∷◌, ◌++◌, ◌==◌, if◌then◌else◌, [], All, Bool, List, count_by, false, length, map, nat_lt, refl, slice_index, slice_index_or, suc, true, zero, ℕ}
use Rattle.std.specs.declared.cmp.Ordering.{Ordering}
use Rattle.std.specs.declared.cmp.Ordering.TheVariants.{Equal, Greater, Less}

pub key_total : IsTotalOrder key_cmp
key_total = search (comparing, rules)

both_equal : (a b : Ordering) → ordering_then a b ≡ Equal → (a ≡ Equal) × (b ≡ Equal)
both_equal Less b h = absurd (cc)
both_equal Equal b h = (refl, h)
both_equal Greater b h = absurd (cc)

-- keys that tie are those of one node
key_cmp-node : (x y : Key) → key_cmp x y ≡ Equal → x.node ≡ y.node
key_cmp-node x y h =
    let rest = both_equal (nat_cmp (class_rank x.class) (class_rank y.class)) (ordering_then (nat_cmp x.ends y.ends) (nat_cmp x.node y.node)) h in
    exact_unsigned x.node y.node (both_equal (nat_cmp x.ends y.ends) (nat_cmp x.node y.node) rest.1).1

tied : (a b : Ordering) → a ≡ ordering_reverse b → is_lt a ≡ false → is_lt b ≡ false → a ≡ Equal
tied Less b e h h' = absurd (cc)
tied Equal b e h h' = refl
tied Greater Less e h h' = absurd (cc)
tied Greater Equal e h h' = absurd (cc)
tied Greater Greater e h h' = absurd (cc)

pub goes_before-order : (p : Parts) → IsOrder (goes_before p)
goes_before-order p = record {
  weak = ranks_by key_total (key_of p);
  exact = λ x y not_before not_after.
      key_cmp-node (key_of p x) (key_of p y) (tied (key_cmp (key_of p x) (key_of p y)) (key_cmp (key_of p y) (key_of p x)) (key_total.antisymm (key_of p x) (key_of p y)) not_before not_after);
}

in_order-rises : (p : Parts) (n : ℕ) → Rises (goes_before p) (in_order p n)
in_order-rises p zero = tt
in_order-rises p (suc n) = Rises-put_in (goes_before p) (goes_before-order p).weak (suc n) (in_order p n) (in_order-rises p n)

in_order-once : (p : Parts) (n v : ℕ) → times_in v (in_order p n) ≡ times_in v (range_with_len 1 n)
in_order-once p zero v = refl
in_order-once p (suc n) v =
    let test : ℕ → ℕ = λ x. if x == v then 1 else 0 in
    omega (arith, sum_by-put_in (goes_before p) test (suc n) (in_order p n), in_order-once p n v, sum_by-range_more test 1 n, ap test (one_more n))
  where
    one_more : (n : ℕ) → 1 + n ≡ suc n
    one_more n = omega arith

-- a key of the first class goes before one of a later class
less_first : (a b : Key) → is_lt (key_cmp a b) ≡ false → class_rank a.class ≡ 0 → 0 < class_rank b.class → ⊥
less_first a b not_before zero_rank above =
    let less : nat_cmp (class_rank a.class) (class_rank b.class) ≡ Less = ap (λ r. nat_cmp r (class_rank b.class)) zero_rank ∙ below (class_rank b.class) above in
    let before : is_lt (key_cmp a b) ≡ true = ap (λ o. is_lt (ordering_then o (ordering_then (nat_cmp a.ends b.ends) (nat_cmp a.node b.node)))) less in
    true≢false (sym before ∙ not_before)
  where
    below : (n : ℕ) → 0 < n → nat_cmp 0 n ≡ Less
    below n h = grind (arith, nat_tests)

-- the rows that a sort of the keys gives
pub record AreSorted (p : Parts) (n : ℕ) (nodes : List ℕ) : Type 0 where
  pub each_once : IsPermutation (range_with_len 1 n) nodes
  pub rising : IsSortedByKey (key_of p) key_cmp nodes

-- there is one such list
pub sorted-in_order : (p : Parts) (n : ℕ) (nodes : List ℕ) → AreSorted p n nodes → nodes ≡ in_order p n
sorted-in_order p n nodes h =
    let order = goes_before-order p in
    rises_once (goes_before p) order nodes (in_order p n) (Rises-from_sorted (goes_before p) order.weak nodes h.rising) (in_order-rises p n)
    (λ v. sum_by-IsPermutation (λ x. if x == v then 1 else 0) (range_with_len 1 n) nodes h.each_once ∙ sym (in_order-once p n v))

map_node : (p : Parts) (xs : List ℕ) → map (λ (k : Key). k.node) (map (key_of p) xs) ≡ xs
map_node p [] = refl
map_node p (x ∷ xs) = ap (λ ys. x ∷ ys) (map_node p xs)

own_keys : (p : Parts) (xs : List ℕ) → All (λ (k : Key). k ≡ key_of p k.node) (map (key_of p) xs)
own_keys p [] = All-nil (λ (k : Key). k ≡ key_of p k.node)
own_keys p (x ∷ xs) = All-cons (λ (k : Key). k ≡ key_of p k.node) (key_of p x) (map (key_of p) xs) refl (own_keys p xs)

pub sorted_keys : (p : Parts) (n : ℕ) (keys : List Key) → IsPermutation (map (key_of p) (range_with_len 1 n)) keys → IsSorted key_cmp keys → AreSorted p n (map (λ (k : Key). k.node) keys)
sorted_keys p n keys moved up = record {
  each_once = subst (λ xs. IsPermutation xs (map (λ (k : Key). k.node) keys)) (map_node p (range_with_len 1 n)) (IsPermutation-map (λ (k : Key). k.node) (map (key_of p) (range_with_len 1 n)) keys moved);
  rising = λ k d low high.
      let own = All-permutation (λ (k : Key). k ≡ key_of p k.node) (map (key_of p) (range_with_len 1 n)) keys moved (own_keys p (range_with_len 1 n)) in
      let within : k + 1 < length keys = omega (arith, length-map keys (λ (k : Key). k.node)) in
      let e = key_of p d in
      let key_at : (i : ℕ) → i < length keys → key_of p (slice_index_or (map (λ (k : Key). k.node) keys) i d) ≡ slice_index_or keys i e =
      λ i inside. ap (key_of p) (get_or-map (λ (k : Key). k.node) keys i e d inside) ∙ sym (own i e inside) in
      let here = key_at k (omega arith) in
      let next = key_at (k + 1) within in
      ap (λ x. is_lt (key_cmp x (key_of p (slice_index_or (map (λ (k : Key). k.node) keys) k d)))) next ∙ ap (λ y. is_lt (key_cmp (slice_index_or keys (k + 1) e) y)) here ∙ up k e low within;
}

-- where what stands before a number that passes passes too, the numbers that pass come first
all_fail : (test : ℕ → Bool) (xs : List ℕ) → All (λ y. test y ≡ false) xs → count_by test xs ≡ 0
all_fail test [] h = refl
all_fail test (x ∷ xs) h =
    let first = ap {B = ℕ} (λ b. if b then 1 else 0) (All-head (λ y. test y ≡ false) x xs h) in
    omega (arith, sum_by-cons (λ y. if test y then 1 else 0) x xs, first, all_fail test xs (All-tail (λ y. test y ≡ false) x xs h))

fails_behind : (lt : ℕ → ℕ → Bool) (test : ℕ → Bool) → ((x y : ℕ) → lt y x ≡ false → test y ≡ true → test x ≡ true) → (x y : ℕ) → test x ≡ false → lt y x ≡ false → (b : Bool) → test y ≡ b → test y ≡ false
fails_behind lt test closed x y fails behind true e = absurd (true≢false (sym (closed x y behind e) ∙ fails))
fails_behind lt test closed x y fails behind false e = e

passing_head : (lt : ℕ → ℕ → Bool) (test : ℕ → Bool) → ((x y : ℕ) → lt y x ≡ false → test y ≡ true → test x ≡ true) → (x : ℕ) (xs : List ℕ) → All (λ y. lt y x ≡ false) xs → ((k : ℕ) → k < length xs → test (slice_index_or xs k 0) ≡ nat_lt k (count_by test xs)) → (b : Bool) → test x ≡ b → (k : ℕ) → k < suc (length xs)
    → test (slice_index_or (x ∷ xs) k 0) ≡ nat_lt k (count_by test (x ∷ xs))
passing_head lt test closed x xs behind rest true is zero within =
    let count : count_by test (x ∷ xs) ≡ 1 + count_by test xs = sum_by-cons (λ y. if test y then 1 else 0) x xs ∙ ap (λ (b : Bool). (if b then 1 else 0) + count_by test xs) is in
    is ∙ sym (ap (nat_lt 0) count ∙ yes (count_by test xs))
  where
    yes : (n : ℕ) → nat_lt 0 (1 + n) ≡ true
    yes n = grind (arith, nat_tests)
passing_head lt test closed x xs behind rest true is (suc k) within =
    let count : count_by test (x ∷ xs) ≡ 1 + count_by test xs = sum_by-cons (λ y. if test y then 1 else 0) x xs ∙ ap (λ (b : Bool). (if b then 1 else 0) + count_by test xs) is in
    rest k (omega arith) ∙ sym (ap (nat_lt (suc k)) count ∙ same k (count_by test xs))
  where
    same : (k n : ℕ) → nat_lt (suc k) (1 + n) ≡ nat_lt k n
    same k n = grind (arith, nat_tests)
passing_head lt test closed x xs behind rest false is k within =
    let others : All (λ y. test y ≡ false) xs = λ i d inside. fails_behind lt test closed x (slice_index_or xs i d) is (behind i d inside) (test (slice_index_or xs i d)) refl in
    let all : All (λ y. test y ≡ false) (x ∷ xs) = All-cons (λ y. test y ≡ false) x xs is others in
    all k 0 within ∙ sym (ap (nat_lt k) (all_fail test (x ∷ xs) all) ∙ no k)
  where
    no : (n : ℕ) → nat_lt n 0 ≡ false
    no n = grind (arith, nat_tests)

pub passing_first : (lt : ℕ → ℕ → Bool) (test : ℕ → Bool) → ((x y : ℕ) → lt y x ≡ false → test y ≡ true → test x ≡ true) → (xs : List ℕ) → Rises lt xs → (k : ℕ) → k < length xs → test (slice_index_or xs k 0) ≡ nat_lt k (count_by test xs)
passing_first lt test closed [] up k within = absurd (omega arith)
passing_first lt test closed (x ∷ xs) up k within = passing_head lt test closed x xs up.0 (passing_first lt test closed xs up.1) (test x) refl k within

-- what stands before a node with a source has a source
source_before : (p : Parts) (x y : ℕ) → goes_before p y x ≡ false → has_source p y ≡ true → has_source p x ≡ true
source_before p x y not_before there = choose (has_source p x) refl (may_change p x) refl
  where
    first : class_of p y ≡ SourceClass
    first = ap (λ (b : Bool). if b then SourceClass else if may_change p y then Changing else Constant) there

    choose : (b : Bool) → has_source p x ≡ b → (m : Bool) → may_change p x ≡ m → has_source p x ≡ true
    choose true is m changes = is
    choose false is true changes =
        let class : class_of p x ≡ Changing = ap (λ (b : Bool). if b then SourceClass else if may_change p x then Changing else Constant) is ∙ ap (λ (b : Bool). if b then Changing else Constant) changes in
        absurd (less_first (key_of p y) (key_of p x) not_before (ap class_rank first) (omega (arith, ap class_rank class)))
    choose false is false changes =
        let class : class_of p x ≡ Constant = ap (λ (b : Bool). if b then SourceClass else if may_change p x then Changing else Constant) is ∙ ap (λ (b : Bool). if b then Changing else Constant) changes in
        absurd (less_first (key_of p y) (key_of p x) not_before (ap class_rank first) (omega (arith, ap class_rank class)))

pub sources_first : (p : Parts) (n : ℕ) (nodes : List ℕ) → AreSorted p n nodes → (row : ℕ) → row < length nodes → has_source p (slice_index nodes row) ≡ nat_lt row (count_by (has_source p) (range_with_len 1 n))
sources_first p n nodes h row within =
    passing_first (goes_before p) (has_source p) (source_before p) nodes (Rises-from_sorted (goes_before p) (goes_before-order p).weak nodes h.rising) row within
    ∙ ap (nat_lt row) (sum_by-IsPermutation (λ x. if has_source p x then 1 else 0) (range_with_len 1 n) nodes h.each_once)

-- the rows of a sort are those of the case
pub sorted_rows : (p : Parts) (nodes : List ℕ) (fixed : ℕ) → AreSorted p (length p.nodes) nodes → fixed ≡ count_by (has_source p) (range_with_len 1 (length p.nodes)) → IsRowOrder p (record { nodes = nodes; fixed = fixed })
sorted_rows p nodes fixed h count = record {
  each_once = h.each_once;
  rising = h.rising;
  sources_first = λ row within. sources_first p (length p.nodes) nodes h row within ∙ ap (nat_lt row) (sym count);
}

pub rows_are : (p : Parts) (nodes : List ℕ) (fixed : ℕ) → AreSorted p (length p.nodes) nodes → fixed ≡ count_by (has_source p) (range_with_len 1 (length p.nodes)) → record { nodes = nodes; fixed = fixed } ≡ order_of p
rows_are p nodes fixed h count =
    let made : List ℕ → ℕ → Rows = λ xs m. record { nodes = xs; fixed = m } in
    ap (λ xs. made xs fixed) (sorted-in_order p (length p.nodes) nodes h) ∙ ap (made (in_order p (length p.nodes))) count

-- the same for the lists that the code has on the way
pub sorted_nodes : (p : Parts) (n : ℕ) (keys sorted : List Key) (nodes : List ℕ) → keys ≡ map (key_of p) (range_with_len 1 n) → IsPermutation keys sorted → IsSorted key_cmp sorted → nodes ≡ map (λ (k : Key). k.node) sorted → AreSorted p n nodes
sorted_nodes p n keys sorted nodes made moved up listed =
    subst (AreSorted p n) (sym listed) (sorted_keys p n sorted (subst (λ xs. IsPermutation xs sorted) made moved) up)

-- The order of a case, whoever computed it

in_order-once_each : (p : Parts) (n : ℕ) → IsPermutation (range_with_len 1 n) (in_order p n)
in_order-once_each p zero = IsPermutation-refl []
in_order-once_each p (suc n) =
    let front = IsPermutation-cons (suc n) (range_with_len 1 n) (in_order p n) (in_order-once_each p n) in
    let put = IsPermutation-put_in (goes_before p) (suc n) (in_order p n) in
    IsPermutation-trans (range_with_len 1 (suc n)) (suc n ∷ range_with_len 1 n) (in_order p (suc n)) (IsPermutation-range_more n) (IsPermutation-trans (suc n ∷ range_with_len 1 n) (suc n ∷ in_order p n) (in_order p (suc n)) front put)

pub order_of-IsRowOrder : (p : Parts) → IsRowOrder p (order_of p)
order_of-IsRowOrder p = sorted_rows p (in_order p (length p.nodes)) (order_of p).fixed
    (record { each_once = in_order-once_each p (length p.nodes); rising = Rises-sorted (goes_before p) (in_order p (length p.nodes)) (in_order-rises p (length p.nodes)) })
    refl

pub length-order_of : (p : Parts) → length (order_of p).nodes ≡ length p.nodes
length-order_of p = length_permutation (range_with_len 1 (length p.nodes)) (in_order p (length p.nodes)) (in_order-once_each p (length p.nodes)) ∙ length-range_with_len 1 (length p.nodes)

-- one more key at the end
pub one_more_key : (p : Parts) (n : ℕ) (old new : List Key) (k : Key) → old ≡ map (key_of p) (range_with_len 1 n) → k ≡ key_of p (n + 1) → new ≡ old ++ k ∷ [] → new ≡ map (key_of p) (range_with_len 1 (n + 1))
one_more_key p n old new k are is pushed =
    let more = map-range_with_len_more (key_of p) 1 n (n + 1) (omega arith) in
    pushed ∙ ap (λ xs. xs ++ k ∷ []) are ∙ ap (λ x. map (key_of p) (range_with_len 1 n) ++ x ∷ []) is ∙ sym more
