-- The groups are the same in whatever order the closed switches are taken.
use Rattle.std.proofs.Common.{◌≡◌, ◌≤◌, ◌<◌, ◌+◌, ◌==◌, ◌&&◌, ◌∷◌, ℕ, suc, List, [], Bool, length, map, slice_index, refl, ap, sym, ◌∙◌, inl, inr, arith}
use Rattle.std.specs.List.{AllByRecursion as Each}
use Rattle.std.specs.List.{All, Contains}
use Rattle.std.specs.List.Sorted.{IsPermutation}
use Rattle.std.specs.Option.{unwrap_or}
use Rattle.std.proofs.lemmas.Bool.{cases_eq, eq-eqb, eqb-true, ne_eqb}
use Rattle.std.proofs.lemmas.List.Elements.{All-from_get_or, All-weaker}
use Rattle.std.proofs.lemmas.List.FromFn.{length-range_with_len}
use Rattle.std.proofs.lemmas.List.Sorted.{Contains-permutation, IsPermutation-sym}
use Rattle.emtp_case.specs.RowOrder.{Rows, touches_switch}
use Rattle.emtp_case.specs.held.RowOrder.{IsRowOrder}
use Rattle.emtp_case.specs.declared.case.Parts.{Parts}
use Rattle.emtp_case.specs.declared.switch.Switch.{Switch}
use Rattle.emtp_switch.specs.Groups.{alone, by_rank, groups, root_of}
use Rattle.emtp_switch.specs.held.Groups.{EndWithin}
use Rattle.emtp_switch.specs.Kinds.{count_members, has_feed, has_member, kind_of}
use Rattle.emtp_switch.proofs.Alike.{any_same, count_same, find_same, map_same}
use Rattle.emtp_switch.proofs.Cuts.{Among, alone-follows, each_among}
use Rattle.emtp_switch.proofs.Labels.{Agrees, OneLabel, groups-follows, groups-joins, length-groups}
use Rattle.emtp_switch.proofs.Regrouping.{rank_is, rows_within}
use Rattle.emtp_switch.proofs.Sides.{among_from}

each_from : (P : ℕ → Type 0) (es : List ℕ) → ((s : ℕ) → Among s es → P s) → Each P es
each_from P [] h = tt
each_from P (s ∷ es) h = (h s (inl refl), each_from P es (λ b among. h b (inr among)))

contains_from : (b : ℕ) (es : List ℕ) → Among b es → Contains es b
contains_from b [] there = absurd there
contains_from b (s ∷ es) (inl here) = (0, omega arith, here)
contains_from b (s ∷ es) (inr later) = let (k, below, is) = contains_from b es later in (suc k, omega arith, is)

-- nodes that some closed switches join are joined by others among which these are
joined_too : (switches : List Switch) (n : ℕ) (es fs : List ℕ) → EndWithin switches (n + 1) → ((s : ℕ) → Among s es → Among s fs) → (x y : ℕ) → x ≤ n → y ≤ n
    → slice_index (groups switches (alone n) es) x ≡ slice_index (groups switches (alone n) es) y → slice_index (groups switches (alone n) fs) x ≡ slice_index (groups switches (alone n) fs) y
joined_too switches n es fs within among x y in_x in_y same =
    let w : EndWithin switches (length (alone n)) = rw (length-range_with_len 0 (n + 1)) within in
    let b = groups switches (alone n) fs in
    let colour : ℕ → Bool = λ z. slice_index b z == slice_index b y in
    let agree : Each (Agrees switches colour) es = each_from (Agrees switches colour) es (λ s h. ap (λ l. l == slice_index b y) (each_among (OneLabel switches b) s fs (groups-joins switches (alone n) fs w) (among s h))) in
    let follows = groups-follows switches (alone n) es colour w agree (alone-follows n colour) in
    let size = length-groups switches (alone n) es in
    let long = length-range_with_len 0 (n + 1) in
    eqb-true (slice_index b x) (slice_index b y) (follows x y (omega (arith, size, long)) (omega (arith, size, long)) same ∙ eq-eqb (slice_index b y) (slice_index b y) refl)

-- two labellings that part the nodes alike
abbrev pub PartAlike : ℕ → List ℕ → List ℕ → Type 0
PartAlike n a b = (x y : ℕ) → x ≤ n → y ≤ n → (slice_index a x == slice_index a y) ≡ (slice_index b x == slice_index b y)

pub part_alike : (switches : List Switch) (n : ℕ) (es fs : List ℕ) → EndWithin switches (n + 1) → IsPermutation es fs → PartAlike n (groups switches (alone n) es) (groups switches (alone n) fs)
part_alike switches n es fs within moved = λ x y in_x in_y.
    let a = groups switches (alone n) es in
    let b = groups switches (alone n) fs in
    let there = λ (s : ℕ) (h : Among s es). among_from s fs (Contains-permutation es fs s moved (contains_from s es h)) in
    let back = λ (s : ℕ) (h : Among s fs). among_from s es (Contains-permutation fs es s (IsPermutation-sym es fs moved) (contains_from s fs h)) in
    elim (cases_eq (slice_index a x) (slice_index a y)) [
      | inl one ↦ eq-eqb (slice_index a x) (slice_index a y) one ∙ sym (eq-eqb (slice_index b x) (slice_index b y) (joined_too switches n es fs within there x y in_x in_y one))
      | inr two ↦ ne_eqb (slice_index a x) (slice_index a y) two ∙ sym (ne_eqb (slice_index b x) (slice_index b y) (λ e. two (joined_too switches n fs es within back x y in_x in_y e)))
    ]

-- kinds go by the groups alone
pub kinds_alike : (p : Parts) (rows : Rows) (a b : List ℕ) → IsRowOrder p rows → PartAlike (length rows.nodes) a b → map (kind_of p rows a) rows.nodes ≡ map (kind_of p rows b) rows.nodes
kinds_alike p rows a b is alike = map_same (kind_of p rows a) (kind_of p rows b) rows.nodes (over_rows (λ x. kind_of p rows a x ≡ kind_of p rows b x) one)
  where
    n : ℕ
    n = length rows.nodes

    over_rows : (P : ℕ → Type 0) → ((x : ℕ) → x ≤ n → P x) → All P rows.nodes
    over_rows P h = All-from_get_or P rows.nodes 0 (λ row below. h (slice_index rows.nodes row) (rows_within p rows is row below))

    root_alike : (x : ℕ) → x ≤ n → root_of rows a x ≡ root_of rows b x
    root_alike x in_x = ap (λ o. unwrap_or o 0) (find_same (λ k. slice_index a k == slice_index a x) (λ k. slice_index b k == slice_index b x) (by_rank rows)
        (All-weaker (λ k. k < n + 1) (λ k. (slice_index a k == slice_index a x) ≡ (slice_index b k == slice_index b x)) (λ k below. alike k x (omega arith) in_x) (by_rank rows) (rank_is p rows is).within))

    member_alike : (test : ℕ → Bool) (x : ℕ) → x ≤ n → has_member rows.nodes a test (slice_index a x) ≡ has_member rows.nodes b test (slice_index b x)
    member_alike test x in_x = any_same (λ k. slice_index a k == slice_index a x && test k) (λ k. slice_index b k == slice_index b x && test k) rows.nodes
        (over_rows (λ k. (slice_index a k == slice_index a x && test k) ≡ (slice_index b k == slice_index b x && test k)) (λ k in_k. ap (λ c. c && test k) (alike k x in_k in_x)))

    count_alike : (x : ℕ) → x ≤ n → count_members rows.nodes a (slice_index a x) ≡ count_members rows.nodes b (slice_index b x)
    count_alike x in_x = count_same (λ k. slice_index a k == slice_index a x) (λ k. slice_index b k == slice_index b x) rows.nodes
        (over_rows (λ k. (slice_index a k == slice_index a x) ≡ (slice_index b k == slice_index b x)) (λ k in_k. alike k x in_k in_x))

    one : (x : ℕ) → x ≤ n → kind_of p rows a x ≡ kind_of p rows b x
    one x in_x = rw (root_alike x in_x, member_alike (touches_switch p) x in_x, member_alike (has_feed p) x in_x, count_alike x in_x) refl
