-- Where a switch is tied: two known voltages meet in one group.
use Rattle.std.proofs.Common.{◌≡◌, ◌≢◌, ◌⊎◌, ◌↔◌, ◌<◌, ◌+◌, ◌==◌, ◌&&◌, ◌∷◌, ℕ, List, [], Bool, Option, None, Some, IsSome, true, false, not, length, slice_index, refl, ap, sym, ◌∙◌, subst, inl, inr, arith}
use Rattle.std.specs.List.{All, Contains}
use Rattle.std.proofs.lemmas.Bool.{cases_Bool, cases_eq, cond-false, cond-true, eq-eqb, eqb-true, ne_eqb, true≢false}
use Rattle.std.proofs.lemmas.List.Folds.{Any-from_list_any, list_any-from_Any}
use Rattle.std.proofs.lemmas.List.FromFn.{length-range_with_len}
use Rattle.emtp_case.specs.RowOrder.{Rows}
use Rattle.emtp_case.specs.declared.switch.Switch.{Switch}
use Rattle.emtp_switch.specs.Groups.{alone, divides, first_tied, from_at, groups, join, known_nodes, knows, ties, to_at}
use Rattle.emtp_switch.specs.held.Groups.{EndWithin, KnownMeet}
use Rattle.emtp_switch.proofs.Labels.{groups-keeps, join-at, join-keeps, length-join, moved, moved_at, moved_from, moved_off, within_more}
use Rattle.std.proofs.lemmas.List.Elements.{All-contains}
use Rattle.emtp_switch.proofs.Plans.{own_label}

-- two of some nodes, of different groups at first, that come into one
record Meet (known labels final : List ℕ) : Type 0 where
  one : ℕ
  other : ℕ
  one_known : Contains known one
  other_known : Contains known other
  apart : slice_index labels one ≢ slice_index labels other
  together : slice_index final one ≡ slice_index final other

knows_it : (known labels : List ℕ) (k l : ℕ) → Contains known k → slice_index labels k ≡ l → knows known labels l ≡ true
knows_it known labels k l (i, below, is) e = list_any-from_Any (λ x. slice_index labels x == l) known (i, k, below, is, eq-eqb (slice_index labels k) l e)

known_one : (known labels : List ℕ) (l : ℕ) → knows known labels l ≡ true → (k : ℕ) × Contains known k × (slice_index labels k ≡ l)
known_one known labels l on =
    let (i, k, below, is, at) = Any-from_list_any (λ x. slice_index labels x == l) known on in
    (k, (i, below, is), eqb-true (slice_index labels k) l at)

-- labels that a join makes one were those of its ends
unjoined : (f t a b : ℕ) → moved f t a ≡ moved f t b → a ≢ b → ((a ≡ f) × (b ≡ t)) ⊎ ((a ≡ t) × (b ≡ f))
unjoined f t a b e ne = elim (cases_eq a t) [
  | inl at ↦ elim (cases_eq b t) [
    | inl bt ↦ absurd (ne (at ∙ sym bt))
    | inr bo ↦ inr (at, sym (moved_off f t b bo) ∙ sym e ∙ moved_at f t a at)
  ]
  | inr ao ↦ elim (cases_eq b t) [
    | inl bt ↦ inl (sym (moved_off f t a ao) ∙ e ∙ moved_at f t b bt, bt)
    | inr bo ↦ absurd (ne (sym (moved_off f t a ao) ∙ e ∙ moved_off f t b bo))
  ]
]

all_three : (a b c : Bool) → a ≡ true → b ≡ true → c ≡ true → (a && (b && c)) ≡ true
all_three a b c p q r = rw (p, q, r) refl

each_of : (a b c : Bool) → (a && (b && c)) ≡ true → (a ≡ true) × (b ≡ true) × (c ≡ true)
each_of true true true h = (refl, refl, refl)
each_of true true false h = absurd (true≢false (sym h))
each_of true false c h = absurd (true≢false (sym h))
each_of false b c h = absurd (true≢false (sym h))

some_none : (s : ℕ) → Some s ≡ None → ⊥
some_none s h = cc

-- where no switch is tied, known voltages that come into one group were in one at first
pub none_meet : (switches : List Switch) (known labels es : List ℕ) → EndWithin switches (length labels) → All (λ k. k < length labels) known → first_tied switches known labels es ≡ None
    → (a b : ℕ) → Contains known a → Contains known b → slice_index (groups switches labels es) a ≡ slice_index (groups switches labels es) b → slice_index labels a ≡ slice_index labels b
none_meet switches known labels [] w all none a b in_a in_b e = e
none_meet switches known labels (s ∷ es) w all none a b in_a in_b e = elim (cases_Bool (ties switches known labels s)) [
  | inl on ↦ absurd (some_none s (sym (cond-true (ties switches known labels s) (Some s) (first_tied switches known (join switches labels s) es) on) ∙ none))
  | inr off ↦
      let rest = sym (cond-false (ties switches known labels s) (Some s) (first_tied switches known (join switches labels s) es) off) ∙ none in
      let long = length-join switches labels s in
      let joined = none_meet switches known (join switches labels s) es (within_more switches labels s w) (subst (λ n. All (λ k. k < n) known) (sym long) all) rest a b in_a in_b e in
      let f = slice_index labels (from_at switches s) in
      let t = slice_index labels (to_at switches s) in
      let one = sym (join-at switches labels s a (All-contains (λ k. k < length labels) known a all in_a)) ∙ joined ∙ join-at switches labels s b (All-contains (λ k. k < length labels) known b all in_b) in
      elim (cases_eq (slice_index labels a) (slice_index labels b)) [
        | inl same ↦ same
        | inr ne ↦ absurd (true≢false (elim (unjoined f t (slice_index labels a) (slice_index labels b) one ne) [
          | inl (af, bt) ↦ sym (tie f t (λ ft. ne (af ∙ ft ∙ sym bt)) (knows_it known labels a f in_a af) (knows_it known labels b t in_b bt)) ∙ off
          | inr (at, bf) ↦ sym (tie f t (λ ft. ne (at ∙ sym ft ∙ sym bf)) (knows_it known labels b f in_b bf) (knows_it known labels a t in_a at)) ∙ off
        ]))
      ]
]
  where
    tie : (f t : ℕ) → f ≢ t → knows known labels f ≡ true → knows known labels t ≡ true → (not (f == t) && (knows known labels f && knows known labels t)) ≡ true
    tie f t ne at_f at_t = all_three (not (f == t)) (knows known labels f) (knows known labels t) (ap not (ne_eqb f t ne)) at_f at_t

-- where one is, two of them come into one group
some_meet : (switches : List Switch) (known labels es : List ℕ) (s : ℕ) → EndWithin switches (length labels) → All (λ k. k < length labels) known → first_tied switches known labels es ≡ Some s
    → Meet known labels (groups switches labels es)
some_meet switches known labels [] s w all some = absurd (some_none s (sym some))
some_meet switches known labels (x ∷ es) s w all some = elim (cases_Bool (ties switches known labels x)) [
  | inl on ↦
      let (divided, at_f, at_t) = each_of (divides switches labels x) (knows known labels f) (knows known labels t) on in
      let (a, in_a, is_a) = known_one known labels f at_f in
      let (b, in_b, is_b) = known_one known labels t at_t in
      let below_a = All-contains (λ k. k < length labels) known a all in_a in
      let below_b = All-contains (λ k. k < length labels) known b all in_b in
      let one = join-at switches labels x a below_a ∙ ap (moved f t) is_a ∙ moved_from f t ∙ sym (join-at switches labels x b below_b ∙ ap (moved f t) is_b ∙ moved_at f t t refl) in
      record {
        one = a;
        other = b;
        one_known = in_a;
        other_known = in_b;
        apart = λ e. true≢false (sym divided ∙ ap not (eq-eqb f t (sym is_a ∙ e ∙ is_b)));
        together = groups-keeps switches (join switches labels x) es a b (omega (arith, long, below_a)) (omega (arith, long, below_b)) one;
      }
  | inr off ↦
      let rest = sym (cond-false (ties switches known labels x) (Some x) (first_tied switches known (join switches labels x) es) off) ∙ some in
      let m = some_meet switches known (join switches labels x) es s (within_more switches labels x w) (subst (λ n. All (λ k. k < n) known) (sym long) all) rest in
      record {
        one = m.one;
        other = m.other;
        one_known = m.one_known;
        other_known = m.other_known;
        apart = λ e. m.apart (join-keeps switches labels x m.one m.other (All-contains (λ k. k < length labels) known m.one all m.one_known) (All-contains (λ k. k < length labels) known m.other all m.other_known) e);
        together = m.together;
      }
]
  where
    f : ℕ
    f = slice_index labels (from_at switches x)

    t : ℕ
    t = slice_index labels (to_at switches x)

    long : length (join switches labels x) ≡ length labels
    long = length-join switches labels x

-- from the start, where each node is alone
pub tied_where_they_meet : (switches : List Switch) (rows : Rows) (es : List ℕ) → EndWithin switches (length rows.nodes + 1) → All (λ k. k < length rows.nodes + 1) (known_nodes rows)
    → IsSome (first_tied switches (known_nodes rows) (alone (length rows.nodes)) es) ↔ KnownMeet rows (groups switches (alone (length rows.nodes)) es)
tied_where_they_meet switches rows es ends below = (there, back)
  where
    n : ℕ
    n = length rows.nodes

    long : length (alone n) ≡ n + 1
    long = length-range_with_len 0 (n + 1)

    w : EndWithin switches (length (alone n))
    w = subst (EndWithin switches) (sym long) ends

    all : All (λ k. k < length (alone n)) (known_nodes rows)
    all = subst (λ m. All (λ k. k < m) (known_nodes rows)) (sym long) below

    there : IsSome (first_tied switches (known_nodes rows) (alone n) es) → KnownMeet rows (groups switches (alone n) es)
    there some = by_cases (first_tied switches (known_nodes rows) (alone n) es) refl some
      where
        by_cases : (o : Option ℕ) → first_tied switches (known_nodes rows) (alone n) es ≡ o → IsSome o → KnownMeet rows (groups switches (alone n) es)
        by_cases None e h = absurd (true≢false (sym h))
        by_cases (Some s) e h =
            let m = some_meet switches (known_nodes rows) (alone n) es s w all e in
            record { one = m.one; other = m.other; one_known = m.one_known; other_known = m.other_known; apart = λ same. m.apart (ap (slice_index (alone n)) same); together = m.together }

    back : KnownMeet rows (groups switches (alone n) es) → IsSome (first_tied switches (known_nodes rows) (alone n) es)
    back m = by_cases (first_tied switches (known_nodes rows) (alone n) es) refl
      where
        by_cases : (o : Option ℕ) → first_tied switches (known_nodes rows) (alone n) es ≡ o → IsSome o
        by_cases None e =
            let same = none_meet switches (known_nodes rows) (alone n) es w all e m.one m.other m.one_known m.other_known m.together in
            absurd (m.apart (sym (own_label n m.one (All-contains (λ k. k < n + 1) (known_nodes rows) m.one below m.one_known)) ∙ same ∙ own_label n m.other (All-contains (λ k. k < n + 1) (known_nodes rows) m.other below m.other_known)))
        by_cases (Some s) e = refl
