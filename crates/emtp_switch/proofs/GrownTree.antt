-- The tree of the bridges is there: grown from the roots, link after link, as long as a bridge is half reached.
use Rattle.std.proofs.Common.{◌≡◌, ◌≢◌, ◌⊎◌, ℕ, zero, suc, ◌+◌, ◌<◌, ◌≤◌, ◌==◌, Bool, true, false, not, if◌then◌else◌, List, [], ◌∷◌, length, map, replicate, slice_index, slice_set, take, length-set, refl, sym, ◌∙◌, subst, inl, inr, arith}
use Rattle.std.specs.List.{All, Contains, range_with_len}
use Rattle.std.specs.List.Sorted.{IsPermutation}
use Rattle.std.proofs.lemmas.Bool.{cases_Bool, cases_lt, cond-false, cond-true}
use Rattle.std.proofs.lemmas.List.{get_or_past, length-replicate}
use Rattle.std.proofs.lemmas.List.Elements.{All-cons, All-filter, All-head, All-nil, All-tail}
use Rattle.std.proofs.lemmas.List.FromFn.{get_or-map-range_with_len, get_or-range_with_len, length-map-range_with_len, length-range_with_len}
use Rattle.emtp_case.proofs.RowTables.{node_there, nodes_apart}
use Rattle.emtp_case.specs.RowOrder.{Rows}
use Rattle.emtp_case.specs.held.RowOrder.{IsRowOrder}
use Rattle.emtp_case.specs.declared.case.Parts.{Parts}
use Rattle.emtp_case.specs.declared.switch.Switch.{Switch}
use Rattle.emtp_case.specs.declared.switch.SwitchState.{SwitchState}
use Rattle.emtp_switch.specs.held.Grouping.{AreTree}
use Rattle.emtp_switch.specs.Groups.{alone, bridges, bridges_of, by_rank, closed_switches, divides, from_at, groups, is_closed_at, join, to_at}
use Rattle.emtp_switch.specs.held.Groups.{EndWithin}
use Rattle.emtp_switch.specs.held.Tree.{LeadsOn, StartsAtRoots, is_reached, no_link, root_in}
use Rattle.emtp_switch.specs.declared.sweep.Link.{Link}
use Rattle.emtp_switch.proofs.GroupRoots.{ground_reached, roots_are, roots_start}
use Rattle.emtp_switch.proofs.Growth.{IsGrown, far_new, fewer_left, grown_links, grown_more, grown_none, grown_tree, leads_on, some_left, unreached}
use Rattle.emtp_switch.proofs.Labels.{length-groups}
use Rattle.emtp_switch.proofs.Plans.{once_each}
use Rattle.emtp_switch.proofs.Regrouping.{labels_small, rank_is, rows_within}
use Rattle.emtp_switch.proofs.Cuts.{cases_same}

-- ---- places

-- where a node stands among the rows, or ground behind them
record IsPlace (nodes : List ℕ) (x place : ℕ) : Type 0 where
  within : place ≤ length nodes
  there : slice_index nodes place ≡ x
  above : 1 ≤ x → place < length nodes

place_of : (nodes : List ℕ) → IsPermutation (range_with_len 1 (length nodes)) nodes → (x : ℕ) → x ≤ length nodes → (place : ℕ) × IsPlace nodes x place
place_of nodes once zero in_x = (length nodes, record { within = omega arith; there = get_or_past nodes (length nodes) 0 (omega arith); above = λ low. absurd (omega (arith, low)) })
place_of nodes once (suc x) in_x =
    let (row, below, at) = node_there nodes once (suc x) (omega arith) in_x in
    (row, record { within = omega (arith, below); there = at; above = λ low. below })

pub one_row : (nodes : List ℕ) → IsPermutation (range_with_len 1 (length nodes)) nodes → (i j : ℕ) → i < length nodes → j < length nodes → slice_index nodes i ≡ slice_index nodes j → i ≡ j
one_row nodes once i j in_i in_j same = elim (cases_lt i j) [
  | inl below ↦ absurd (nodes_apart nodes once i j below in_j same)
  | inr past ↦ elim (cases_lt j i) [
    | inl below ↦ absurd (nodes_apart nodes once j i below in_i (sym same))
    | inr also ↦ omega (arith, past, also)
  ]
]

-- ---- a bridge that is half reached

record IsHalfReached (switches : List Switch) (reached : List Bool) (es : List ℕ) : Type 0 where
  switch : ℕ
  there : Contains es switch
  half : is_reached reached (from_at switches switch) ≢ is_reached reached (to_at switches switch)

-- both ends of a switch are reached, or neither
abbrev Agrees : List Switch → List Bool → ℕ → Type 0
Agrees switches reached s = is_reached reached (from_at switches s) ≡ is_reached reached (to_at switches s)

half_or_all : (switches : List Switch) (reached : List Bool) (es : List ℕ) → IsHalfReached switches reached es ⊎ All (Agrees switches reached) es
half_or_all switches reached [] = inr (All-nil (Agrees switches reached))
half_or_all switches reached (s ∷ es) = elim (cases_same (is_reached reached (from_at switches s)) (is_reached reached (to_at switches s))) [
  | inr ne ↦ inl (record { switch = s; there = (0, omega arith, refl); half = ne })
  | inl same ↦ elim (half_or_all switches reached es) [
    | inl h ↦ let (k, below, at) = h.there in inl (record { switch = h.switch; there = (suc k, omega (arith, below), at); half = h.half })
    | inr all ↦ inr (All-cons (Agrees switches reached) s es same all)
  ]
]

-- ---- a link over it

if_within : (b : Bool) (x y n : ℕ) → x ≤ n → y ≤ n → (if b then x else y) ≤ n
if_within true x y n in_x in_y = in_x
if_within false x y n in_x in_y = in_y

link_over : (switches : List Switch) (nodes : List ℕ) (reached : List Bool) (s : ℕ) → IsPermutation (range_with_len 1 (length nodes)) nodes → EndWithin switches (length nodes + 1)
    → is_reached reached (from_at switches s) ≢ is_reached reached (to_at switches s) → is_reached reached 0 ≡ true → (l : Link) × LeadsOn switches nodes reached s l
link_over switches nodes reached s once within half ground =
    let a = from_at switches s in
    let b = to_at switches s in
    let leaves = not (is_reached reached a) in
    let in_a : a ≤ length nodes = omega (arith, within.from_there s) in
    let in_b : b ≤ length nodes = omega (arith, within.to_there s) in
    let (leaf, far) = place_of nodes once (if leaves then a else b) (if_within leaves a b (length nodes) in_a in_b) in
    let (near, old) = place_of nodes once (if leaves then b else a) (if_within leaves b a (length nodes) in_b in_a) in
    let l : Link = record { switch = s; leaf = leaf; near = near; leaves = leaves } in
    let row : 1 ≤ slice_index nodes leaf → leaf < length nodes = λ low. far.above (subst (λ x. 1 ≤ x) far.there low) in
    (l, leads_on switches nodes reached s l refl refl far.there old.there old.within row (λ r in_rows low same. one_row nodes once r leaf in_rows (row low) same) half ground)

-- ---- all links

record IsFullyGrown (switches : List Switch) (nodes es : List ℕ) (start : List Bool) : Type 0 where
  reached : List Bool
  links : List Link
  used : ℕ
  grown : IsGrown switches nodes es start reached links used
  room : used ≤ length links
  all : All (Agrees switches reached) es

fully : (fuel : ℕ) (switches : List Switch) (nodes es : List ℕ) (start reached : List Bool) (links : List Link) (used : ℕ) → IsGrown switches nodes es start reached links used → unreached reached ≤ fuel
    → used ≤ length links → length reached ≡ length nodes + 1 → is_reached start 0 ≡ true → IsPermutation (range_with_len 1 (length nodes)) nodes → EndWithin switches (length nodes + 1)
    → ((row : ℕ) → row < length nodes → slice_index nodes row ≤ length nodes) → IsFullyGrown switches nodes es start
fully zero switches nodes es start reached links used was few room size ground once within there = elim (half_or_all switches reached es) [
  | inr all ↦ record { reached = reached; links = links; used = used; grown = was; room = room; all = all }
  | inl h ↦
      let (l, on) = link_over switches nodes reached h.switch once within h.half (was.kept 0 ground) in
      let inside : slice_index nodes l.leaf < length reached = omega (arith, there l.leaf on.leaf_row, size) in
      absurd (omega (arith, some_left reached (slice_index nodes l.leaf) inside (far_new switches nodes reached h.switch l on h.half), few))
]
fully (suc fuel) switches nodes es start reached links used was few room size ground once within there = elim (half_or_all switches reached es) [
  | inr all ↦ record { reached = reached; links = links; used = used; grown = was; room = room; all = all }
  | inl h ↦
      let (l, on) = link_over switches nodes reached h.switch once within h.half (was.kept 0 ground) in
      let far = slice_index nodes l.leaf in
      let inside : far < length reached = omega (arith, there l.leaf on.leaf_row, size) in
      let new = far_new switches nodes reached h.switch l on h.half in
      let some = some_left reached far inside new in
      let more : used < length links = omega (arith, some, was.room) in
      let now = grown_more switches nodes es start reached links used h.switch l was h.there h.half on inside more in
      fully fuel switches nodes es start (slice_set reached far true) (slice_set links used l) (used + 1) now (omega (arith, fewer_left reached far inside new, few))
      (omega (arith, more, length-set links used l)) (length-set reached far true ∙ size) ground once within there
]

-- ---- the whole tree

pub bridges_all : (P : ℕ → Type 0) (switches : List Switch) (labels es : List ℕ) → All P es → All P (bridges switches labels es)
bridges_all P switches labels [] all = all
bridges_all P switches labels (s ∷ es) all = elim (cases_Bool (divides switches labels s)) [
  | inl on ↦
      subst (All P) (sym (cond-true (divides switches labels s) (s ∷ bridges switches (join switches labels s) es) (bridges switches labels es) on))
      (All-cons P s (bridges switches (join switches labels s) es) (All-head P s es all) (bridges_all P switches (join switches labels s) es (All-tail P s es all)))
  | inr off ↦
      subst (All P) (sym (cond-false (divides switches labels s) (s ∷ bridges switches (join switches labels s) es) (bridges switches labels es) off))
      (bridges_all P switches labels es (All-tail P s es all))
]

pub tree_there : (p : Parts) (rows : Rows) (states : List SwitchState) → IsRowOrder p rows → EndWithin p.switches (length rows.nodes + 1) → length states ≡ length p.switches → (links : List Link) × AreTree p.switches rows states links
tree_there p rows states order within count =
    let sw = p.switches in
    let n = length rows.nodes in
    let once = once_each p rows order in
    let there = rows_within p rows order in
    let ranked = by_rank rows in
    let rank = rank_is p rows order in
    let es = bridges_of sw rows states in
    let labels = groups sw (alone n) es in
    let size : length labels ≡ n + 1 = length-groups sw (alone n) es ∙ length-range_with_len 0 (n + 1) in
    let f : ℕ → ℕ = λ l. root_in ranked labels l 0 in
    let roots = map f (range_with_len 0 (n + 1)) in
    let many : length roots ≡ n + 1 = length-map-range_with_len f 0 (n + 1) in
    let small = labels_small sw n es labels (length roots) within refl many in
    let found : (l : ℕ) → l < length roots → slice_index roots l ≡ f l = λ l below. get_or-map-range_with_len f 0 (n + 1) l l 0 (omega (arith, below, many)) (omega arith) in
    let are = roots_are rows labels ranked roots (λ l. 0) rank size small found in
    let g : ℕ → Bool = λ x. slice_index roots (slice_index labels x) == x in
    let start = map g (range_with_len 0 (n + 1)) in
    let marks : (x : ℕ) → x < length labels → is_reached start x ≡ g x = λ x below. get_or-map-range_with_len g 0 (n + 1) x x false (omega (arith, below, size)) (omega arith) in
    let starts : StartsAtRoots rows labels start = roots_start rows labels ranked roots start rank size are marks in
    let none : 0 < length labels = omega (arith, size) in
    let ground = ground_reached rows labels ranked roots 0 start rank (found (slice_index labels 0) (small 0 none)) (marks 0 none) in
    let long : length start ≡ n + 1 = length-map-range_with_len g 0 (n + 1) in
    let empty : List Link = replicate (n + 1) no_link in
    let room : length empty ≡ n + 1 = length-replicate (n + 1) no_link in
    let all = fully (unreached start) sw rows.nodes es start start empty 0 (grown_none sw rows.nodes es start empty (omega (arith, long, room))) (omega arith) (omega arith) long ground once within there in
    let numbers : All (λ s. s < length sw) es = bridges_all (λ s. s < length sw) sw (alone n) (closed_switches states)
    (All-filter (is_closed_at states) (λ k. k < length sw) (range_with_len 0 (length states)) (λ i d below.
    let inside : i < length states = omega (arith, below, length-range_with_len 0 (length states)) in
    omega (arith, get_or-range_with_len 0 (length states) i d inside, inside, count))) in (
      take all.used all.links,
      record {
        links_are = grown_links sw rows.nodes es start all.reached all.links all.used (n + 1) all.grown all.room (omega arith) numbers;
        tree = grown_tree sw rows es start all.reached all.links all.used all.grown all.room within all.all there starts;
      },
    )
