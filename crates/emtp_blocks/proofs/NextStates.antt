-- The state of a block after a step, from what the code computes.
use Rattle.emtp_fix.specs.declared.limit.TheConstants.{LARGEST_VALUE}
use Rattle.std.proofs.Common.{◌≡◌, ◌∙◌, sym, ap, subst, Bool, true, false, not, ◌&&◌, ◌==◌, if◌then◌else◌, nat_lt, ℕ, suc, ◌+◌, ◌*◌, ◌^◌, ◌<◌, ◌≤◌, ℤ, pos, neg_ℤ, ◌-ℤ◌, ◌*ℤ◌, List, Some, None, unsigned_abs, add-one, refl, inl, inr, arith}
use Rattle.std.proofs.lemmas.Bool.{cases_lt}
use Rattle.std.proofs.lemmas.Bool.Decides.{nat_tests}
use Rattle.std.specs.Ordering.{int_eq}
use Rattle.std.proofs.lemmas.Int.{ints}
use Rattle.std.proofs.lemmas.List.FromFn.{get_or-map-range_with_len}
use Rattle.emtp_case.specs.Control.{numerator_of, denominator_of, coefficient_sum}
use Rattle.emtp_case.specs.declared.control.BlockState.{BlockState}
use Rattle.emtp_case.specs.declared.control.Block.{Block}
use Rattle.emtp_fix.specs.Rounding.{near}
use Rattle.emtp_elim.specs.Matrix.{item, list_of}
use Rattle.emtp_case.specs.Sums.{sum_below}
use Rattle.emtp_fix.specs.Limit.{is_within}
use Rattle.emtp_blocks.specs.Block.{carried, past_output, error_of, chain_of, limiter_for, output_of, padded, unlimited, input_of, each_within, kept_of, next_state}
use Rattle.emtp_blocks.specs.held.Block.{IsLawOf, IsKept, HasState, Keeps}
use Rattle.emtp_case.specs.declared.control.Limiter.{Limiter}
use Rattle.emtp_blocks.specs.declared.law.BlockLaw.{BlockLaw}
use Rattle.emtp_blocks.specs.declared.limits.Limits.{Limits}
use Rattle.emtp_blocks.proofs.Chains.{carried_same, each_same, each_small}
use Rattle.emtp_case.proofs.Sums.{sum_below_same}

-- a number of a list that is made by a function
pub list_item : (n : ℕ) (f : ℕ → ℤ) (j : ℕ) → j < n → item (list_of n f) j ≡ f j
list_item n f j below = get_or-map-range_with_len f 0 n j j (pos 0) below (omega arith)

-- a number below the order of a padded list
padded_item : (order : ℕ) (f : ℕ → ℤ) (j : ℕ) → order ≤ 7 → j < order → item (padded order f) j ≡ f j
padded_item order f j small below =
    let inside : nat_lt j order ≡ true = grind (arith, nat_tests) in
    list_item 8 (λ k. if nat_lt k order then f k else pos 0) j (omega (arith, small, below)) ∙ ap (λ t. if t then f j else pos 0) inside

-- a number of the new chain
pub chain_is : (order : ℕ) (es ys es' ys' errors : List ℤ) (f : ℕ → ℤ) (clamped : Bool) (last : ℤ) (j : ℕ) → j < order → ((i : ℕ) → i < order → item es i ≡ item es' i) → ((i : ℕ) → i < order → item ys i ≡ item ys' i)
    → ((i : ℕ) → i < order → item errors i ≡ f i) → last ≡ f order
    → (if clamped && (suc j == order) then last else carried es ys (j + 1) -ℤ sum_below (j + 1) (item errors)) ≡ chain_of order es' ys' f clamped j
chain_is order es ys es' ys' errors f clamped last j below same same' are is =
    let h : carried es ys (suc j) ≡ carried es' ys' (suc j) = carried_same es ys es' ys' order (suc j) same same' (omega (arith, below)) in
    let s : sum_below (suc j) (item errors) ≡ sum_below (suc j) f = sum_below_same (suc j) (item errors) f (λ k inside. are k (omega (arith, inside, below))) in
    let test : Bool = clamped && (suc j == order) in
    rw add-one (ap (λ z. if test then z else carried es ys (suc j) -ℤ sum_below (suc j) (item errors)) is
    ∙ ap (λ z. if test then f order else z -ℤ sum_below (suc j) (item errors)) h
    ∙ ap (λ z. if test then f order else carried es' ys' (suc j) -ℤ z) s)

-- the code's fields are those of the definition
pub fields_are : (dt : ℤ) (b : Block) (limits : Limits) (r : BlockState) (u x z : ℤ) (kept : BlockState) → b.order ≤ 7 → kept.limiter ≡ limiter_for limits z
    → ((j : ℕ) → j < b.order → item kept.errors j ≡ error_of (numerator_of dt b) (denominator_of dt b) u x j)
    → ((j : ℕ) → j < b.order → item kept.chain j ≡ chain_of b.order r.errors r.chain (error_of (numerator_of dt b) (denominator_of dt b) u x) (not (int_eq x z)) j)
    → HasState b.order kept (kept_of dt b limits r u x z)
fields_are dt b limits r u x z kept small limiter errors chain =
    let e = error_of (numerator_of dt b) (denominator_of dt b) u x in
    record {
      limiter_is = limiter;
      errors_are = λ j below. errors j below ∙ sym (padded_item b.order e j small below);
      chain_is = λ j below. chain j below ∙ sym (padded_item b.order (chain_of b.order r.errors r.chain e (not (int_eq x z))) j small below);
    }

choose : (order : ℕ) (u t w : Bool) (kept : BlockState) (new : BlockState) → u ≡ true → t ≡ w → HasState order kept new → Keeps order (if t then Some kept else None) (if u && w then Some new else None)
choose order true true true kept new is same has = has
choose order true false false kept new is same has = tt
choose order true true false kept new is same has = absurd (grind (arith, same))
choose order true false true kept new is same has = absurd (grind (arith, same))
choose order false t w kept new is same has = absurd (grind (arith, is))

pub next_is : (dt : ℤ) (b : Block) (limits : Limits) (r : BlockState) (solved s u x z : ℤ) (kept : BlockState) (in_range : Bool)
    → u ≡ input_of b s → x ≡ output_of limits r.limiter solved → z ≡ unlimited (coefficient_sum dt b b.order) r.limiter (past_output b.order r.errors r.chain) solved u
    → is_within LARGEST_VALUE u ≡ true → in_range ≡ each_within (10 ^ 36) kept.chain b.order → HasState b.order kept (kept_of dt b limits r u x z)
    → Keeps b.order (if in_range then Some kept else None) (next_state dt b limits r solved s)
unfolding next_state
next_is dt b limits r solved s u x z kept in_range u_is x_is z_is small in_range_is has =
    let z' : z ≡ unlimited (coefficient_sum dt b b.order) r.limiter (past_output b.order r.errors r.chain) solved (input_of b s) = z_is ∙ ap (unlimited (coefficient_sum dt b b.order) r.limiter (past_output b.order r.errors r.chain) solved) u_is in
    let P : ℤ → Type 0 = λ v. HasState b.order kept (kept_of dt b limits r v x z) in
    let has1 = subst P u_is has in
    let Q : ℤ → Type 0 = λ v. HasState b.order kept (kept_of dt b limits r (input_of b s) v z) in
    let has2 = subst Q x_is has1 in
    let R : ℤ → Type 0 = λ v. HasState b.order kept (kept_of dt b limits r (input_of b s) (output_of limits r.limiter solved) v) in
    let has3 = subst R z' has2 in
    let new : BlockState = kept_of dt b limits r (input_of b s) (output_of limits r.limiter solved) (unlimited (coefficient_sum dt b b.order) r.limiter (past_output b.order r.errors r.chain) solved (input_of b s)) in
    choose b.order _ in_range _ kept new (ap (is_within LARGEST_VALUE) (sym u_is) ∙ small) (in_range_is ∙ each_same (10 ^ 36) kept.chain new.chain b.order has3.chain_is) has3

pub next_none : (dt : ℤ) (b : Block) (limits : Limits) (r : BlockState) (solved s : ℤ) → is_within LARGEST_VALUE (input_of b s) ≡ false → next_state dt b limits r solved s ≡ None
unfolding next_state
next_none dt b limits r solved s out = rw out refl

-- what the input's range says
pub input_none : (u : ℤ) → None ≡ (if is_within LARGEST_VALUE u then Some u else None) → is_within LARGEST_VALUE u ≡ false
input_none u e = none (is_within LARGEST_VALUE u) u e
  where
    none : (b : Bool) (u : ℤ) → None ≡ (if b then Some u else None) → b ≡ false
    none true u e = absurd (grind (arith, e))
    none false u e = refl

pub input_some : (u v : ℤ) → Some u ≡ (if is_within LARGEST_VALUE v then Some v else None) → (is_within LARGEST_VALUE v ≡ true) × (u ≡ v)
input_some u v e = some (is_within LARGEST_VALUE v) u v e
  where
    some : (b : Bool) (u v : ℤ) → Some u ≡ (if b then Some v else None) → (b ≡ true) × (u ≡ v)
    some true u v e = (refl, grind (arith, e))
    some false u v e = absurd (grind (arith, e))

law_error : (dt : ℤ) (b : Block) (law : BlockLaw) (u x : ℤ) (j : ℕ) → IsLawOf dt b law → 1 ≤ b.order → j ≤ b.order → error_of (item law.numerators) (item law.denominators) u x j ≡ error_of (numerator_of dt b) (denominator_of dt b) u x j
law_error dt b law u x j is some below =
    ap (λ n. near (n *ℤ u) (pos 1000) -ℤ near (item law.denominators j *ℤ x) (pos 1000)) (is.numerators j some below)
    ∙ ap (λ d. near (numerator_of dt b j *ℤ u) (pos 1000) -ℤ near (d *ℤ x) (pos 1000)) (is.denominators j some below)

-- a number that is asked for in one case alone may be another one in the other
pub asked_alone : (asked here : Bool) (l e v : ℤ) → (asked ≡ true → l ≡ e) → (if asked && here then l else v) ≡ (if asked && here then e else v)
asked_alone true here l e v is = ap (λ (z : ℤ). if here then z else v) (is refl)
asked_alone false here l e v is = refl

pub moved_is : (dt : ℤ) (b : Block) (limits : Limits) (r : BlockState) (old : BlockState) (law : BlockLaw) (u x z last : ℤ) (errors chain0 chain : List ℤ) (limiter : Limiter) → b.order ≤ 7 → IsLawOf dt b law → HasState b.order old r
    → limiter ≡ limiter_for limits z
    → ((j : ℕ) → j < b.order → item errors j ≡ error_of (item law.numerators) (item law.denominators) u x j)
    → last ≡ error_of (item law.numerators) (item law.denominators) u x b.order
    → ((j : ℕ) → j < b.order → item chain0 j ≡ carried old.errors old.chain (j + 1) -ℤ sum_below (j + 1) (item errors))
    → ((j : ℕ) → j < b.order → item chain j ≡ (if not (int_eq x z) && (suc j == b.order) then last else item chain0 j))
    → HasState b.order (record { limiter = limiter; errors = errors; chain = chain }) (kept_of dt b limits r u x z)
moved_is dt b limits r old law u x z last errors chain0 chain limiter small is has limiter_is errors_are last_is chain0_is chain_are =
    let e = error_of (numerator_of dt b) (denominator_of dt b) u x in
    let each : (j : ℕ) → j < b.order → item errors j ≡ e j = λ j below. errors_are j below ∙ law_error dt b law u x j is (omega (arith, below)) (omega (arith, below)) in
    fields_are dt b limits r u x z (record { limiter = limiter; errors = errors; chain = chain }) small limiter_is each
    (λ j below. chain_are j below ∙ ap (λ v. if not (int_eq x z) && (suc j == b.order) then last else v) (chain0_is j below)
    ∙ chain_is b.order old.errors old.chain r.errors r.chain errors e (not (int_eq x z)) last j below has.errors_are has.chain_is each
    (last_is ∙ law_error dt b law u x b.order is (omega (arith, below)) (omega arith)))

pub moved_kept : (order : ℕ) (errors chain0 chain : List ℤ) (limiter : Limiter) → ((j : ℕ) → unsigned_abs (item errors j) ≤ 2 * 10 ^ 35) → each_within (10 ^ 36) chain order ≡ true
    → ((j : ℕ) → order ≤ j → item chain0 j ≡ pos 0) → ((j : ℕ) → order ≤ j → item chain j ≡ item chain0 j) → IsKept (record { limiter = limiter; errors = errors; chain = chain })
moved_kept order errors chain0 chain limiter small all past past' = record {
  errors_small = small;
  chain_small = λ j. elim (cases_lt j order) [
    | inl below ↦ each_small (10 ^ 36) chain order all j below
    | inr beyond ↦ rw (past' j beyond ∙ past j beyond) (omega (arith, ints))
  ];
}

pub z_found : (dt : ℤ) (b : Block) (law : BlockLaw) (r : BlockState) (old : BlockState) (solved u past z : ℤ) → IsLawOf dt b law → HasState b.order old r → z ≡ unlimited law.sum old.limiter past solved u → past ≡ past_output b.order old.errors old.chain
    → z ≡ unlimited (coefficient_sum dt b b.order) r.limiter (past_output b.order r.errors r.chain) solved u
z_found dt b law r old solved u past z is has z_is past_is =
    let h : past ≡ past_output b.order r.errors r.chain = past_is ∙ ap (λ n. near (neg_ℤ n) (pos (10 ^ 9))) (carried_same old.errors old.chain r.errors r.chain b.order b.order has.errors_are has.chain_is (omega arith)) in
    z_is ∙ ap (λ k. unlimited k old.limiter past solved u) is.sum
    ∙ ap (λ l. unlimited (coefficient_sum dt b b.order) l past solved u) has.limiter_is
    ∙ ap (λ p. unlimited (coefficient_sum dt b b.order) r.limiter p solved u) h
