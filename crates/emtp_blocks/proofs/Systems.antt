-- The system of the blocks, block by block.
use Rattle.std.proofs.Common.{◌≡◌, ◌∙◌, sym, ap, subst, ℕ, suc, ◌^◌, ◌<◌, ℤ, pos, neg_ℤ, ◌+ℤ◌, ◌*ℤ◌, List, [], ◌∷◌, All, length, get_or, slice_get, Option, Some, None, IsSome, unwrap_or, Bool, ◌==◌, position, refl, arith}
use Rattle.std.proofs.lemmas.List.FromFn.{length-map-range_with_len, get_or-map-range_with_len, fill_by_all}
use Rattle.std.proofs.lemmas.List.Quantifiers.{position-Some}
use Rattle.emtp_case.specs.Control.{step_gain}
use Rattle.emtp_case.specs.declared.control.Limiter.{Limiter}
use Rattle.emtp_case.specs.declared.control.Limiter.TheVariants.{Free, AtHigh, AtLow}
use Rattle.emtp_fix.specs.Rounding.{near}
use Rattle.emtp_case.specs.StepRecord.{StepRecord}
use Rattle.emtp_case.specs.declared.control.BlockState.{BlockState}
use Rattle.emtp_case.specs.declared.case.Parts.{Parts}
use Rattle.emtp_case.specs.declared.control.Block.{Block}
use Rattle.emtp_case.specs.declared.control.Input.{Input}
use Rattle.emtp_elim.specs.Matrix.{item}
use Rattle.emtp_case.specs.Sums.{total}
use Rattle.emtp_blocks.specs.Block.{held, limits_of, next_state, output_of, past_output}
use Rattle.emtp_blocks.specs.held.Block.{HasState, Keeps}
use Rattle.emtp_blocks.specs.held.BlockRows.{BlockAfter, Gives, IsDiagramOf, place_in, places_of}
use Rattle.emtp_blocks.specs.declared.law.BlockLaw.{BlockLaw}
use Rattle.emtp_blocks.specs.System.{block_of, inside_by, outside_by, outside_sum, free_right, right_by, right, row_entry, unit, coupling_by, input_sum, next_at, next_by, output_by, state_at}
use Rattle.emtp_blocks.proofs.Chains.{carried_same}

pub length-places_of : (case : Parts) → length (places_of case) ≡ length case.vars
length-places_of case = length-map-range_with_len (block_of case) 0 (length case.vars)

pub place_is : (case : Parts) (v : ℕ) → v < length case.vars → place_in (places_of case) v ≡ block_of case v
place_is case v below = get_or-map-range_with_len (block_of case) 0 (length case.vars) v v None below (omega arith)

-- a place is that of a block
pub place_there : (case : Parts) (k : ℕ) (d : Option ℕ) (x : ℕ) → k < length (places_of case) → get_or (places_of case) k d ≡ Some x → x < length case.blocks
place_there case k d x below is =
    let inside : k < length case.vars = omega (arith, below, length-places_of case) in
    let found : block_of case k ≡ Some x = sym (get_or-map-range_with_len (block_of case) 0 (length case.vars) k k d inside (omega arith)) ∙ is in
    first (λ (b : Block). b.var == k) case.blocks x found
  where
    first : (p : Block → Bool) (xs : List Block) (x : ℕ) → position p xs ≡ Some x → x < length xs
    first p [] x e = absurd (grind (arith, e))
    first p (b ∷ xs) x e = (position-Some p (b ∷ xs) x b e).0

-- lists that are read as the held ones make the diagram that these make
pub diagram_seen : (case : Parts) (places seen : List (Option ℕ)) (laws seen-2 : List BlockLaw) → seen ≡ places → seen-2 ≡ laws → IsDiagramOf case places laws → IsDiagramOf case seen seen-2
diagram_seen case places seen laws seen-2 same same-2 held = subst (IsDiagramOf case seen) (sym same-2) (subst (λ (ps : List (Option ℕ)). IsDiagramOf case ps laws) (sym same) held)

total_same : {X : Type 0} (f g : X → ℤ) (P : X → Type 0) (xs : List X) → All P xs → ((x : X) → P x → f x ≡ g x) → total f xs ≡ total g xs
total_same f g P [] all same = refl
total_same f g P (x ∷ xs) all same =
    let here : f x ≡ g x = same x (all 0 x (omega arith)) in
    let rest : total f xs ≡ total g xs = total_same f g P xs (λ k d below. all (suc k) d (omega (arith, below))) same in
    cc

-- sums by the table of places are those by the case
pub input_sum_is : (case : Parts) (known xs : List ℤ) (at : ℕ) (x : ℤ) (inputs : List Input) → All (λ (i : Input). i.var < length case.vars) inputs → input_sum (place_in (places_of case)) known xs at x inputs ≡ input_sum (block_of case) known xs at x inputs
input_sum_is case known xs at x inputs all =
    total_same (λ i. inside_by known xs at x i (place_in (places_of case) i.var)) (λ i. inside_by known xs at x i (block_of case i.var)) (λ (i : Input). i.var < length case.vars) inputs all
    (λ i below. ap (inside_by known xs at x i) (place_is case i.var below))

pub outside_sum_is : (case : Parts) (known : List ℤ) (inputs : List Input) → All (λ (i : Input). i.var < length case.vars) inputs → total (λ i. outside_by known i (place_in (places_of case) i.var)) inputs ≡ total (λ i. outside_by known i (block_of case i.var)) inputs
outside_sum_is case known inputs all =
    total_same (λ i. outside_by known i (place_in (places_of case) i.var)) (λ i. outside_by known i (block_of case i.var)) (λ (i : Input). i.var < length case.vars) inputs all
    (λ i below. ap (outside_by known i) (place_is case i.var below))

-- what one block gives
pub gives_some : (case : Parts) (H : List StepRecord) (known xs : List ℤ) (at : ℕ) (b : Block) (a : BlockAfter) → slice_get case.blocks at ≡ Some b → a.output ≡ output_of (limits_of known b) (state_at H at).limiter (item xs at)
    → Keeps b.order (Some a.state) (next_state case.run.dt b (limits_of known b) (state_at H at) (item xs at) (input_sum (block_of case) known xs at a.output b.inputs)) → Gives a case H known xs at
gives_some case H known xs at b a here output keeps =
    let out : a.output ≡ output_by H known xs at (Some b) = output in
    let K : ℤ → Type 0 = λ x. Keeps b.order (Some a.state) (next_state case.run.dt b (limits_of known b) (state_at H at) (item xs at) (input_sum (block_of case) known xs at x b.inputs)) in
    let keeps' : Keeps b.order (Some a.state) (next_by case H known xs at (Some b)) = subst K out keeps in
    let Q : Option Block → Type 0 = λ o. a.output ≡ output_by H known xs at o in
    let is_next : next_at case H known xs at ≡ next_by case H known xs at (Some b) = ap (next_by case H known xs at) here in (
      let S : Option BlockState → Type 0 = λ o. IsSome o in subst S (sym is_next) (some_of b.order a.state _ keeps'),
      subst Q (sym here) out,
      λ s b' is there.
          let same : b ≡ b' = one _ b b' here there in
          let B : Block → Type 0 = λ x. HasState x.order a.state s in
          let L : Option BlockState → Type 0 = λ o. Keeps b.order (Some a.state) o in
          subst B same (subst L (sym is_next ∙ is) keeps'),
    )
  where
    some_of : (order : ℕ) (k : BlockState) (o : Option BlockState) → Keeps order (Some k) o → IsSome o
    some_of order k None keeps = absurd keeps
    some_of order k (Some s) keeps = refl

    one : (o : Option Block) (b b' : Block) → o ≡ Some b → o ≡ Some b' → b ≡ b'
    one o b b' e e' = ap (λ (o : Option Block). unwrap_or o b) (sym e ∙ e')

pub gives_none : (case : Parts) (H : List StepRecord) (known xs : List ℤ) (at : ℕ) (b : Block) → slice_get case.blocks at ≡ Some b
    → Keeps b.order None (next_by case H known xs at (Some b)) → next_at case H known xs at ≡ None
gives_none case H known xs at b here keeps = ap (next_by case H known xs at) here ∙ none_of b.order _ keeps
  where
    none_of : (order : ℕ) (o : Option BlockState) → Keeps order None o → o ≡ None
    none_of order None keeps = refl
    none_of order (Some s) keeps = absurd keeps

-- ---- the right side

pub right_free : (case : Parts) (H : List StepRecord) (known : List ℤ) (at : ℕ) (b : Block) (state : BlockState) (k r : ℤ) → slice_get case.blocks at ≡ Some b → HasState b.order state (state_at H at) → state.limiter ≡ Free → k ≡ step_gain case.run.dt b
    → r ≡ near (k *ℤ outside_sum (block_of case) known b.inputs) (pos (10 ^ 12)) +ℤ past_output b.order state.errors state.chain → r ≡ right_by case H known at (slice_get case.blocks at)
right_free case H known at b state k r here has free gain value =
    let past : past_output b.order state.errors state.chain ≡ past_output b.order (state_at H at).errors (state_at H at).chain =
    ap (λ n. near (neg_ℤ n) (pos (10 ^ 9))) (carried_same state.errors state.chain (state_at H at).errors (state_at H at).chain b.order b.order has.errors_are has.chain_is (omega arith)) in
    let sum = outside_sum (block_of case) known b.inputs in
    let P : ℤ → Type 0 = λ z. r ≡ near (z *ℤ sum) (pos (10 ^ 12)) +ℤ past_output b.order state.errors state.chain in
    let first = subst P gain value in
    let found : r ≡ held (limits_of known b) Free (free_right case known (state_at H at) b) = first ∙ ap (λ z. near (step_gain case.run.dt b *ℤ sum) (pos (10 ^ 12)) +ℤ z) past in
    let Q : Limiter → Type 0 = λ l. r ≡ held (limits_of known b) l (free_right case known (state_at H at) b) in
    let R : Option Block → Type 0 = λ o. r ≡ right_by case H known at o in
    subst R (sym here) (subst Q (sym free ∙ has.limiter_is) found)

pub right_held : (case : Parts) (H : List StepRecord) (known : List ℤ) (at : ℕ) (b : Block) (state : BlockState) (l : Limiter) (r : ℤ) → slice_get case.blocks at ≡ Some b → HasState b.order state (state_at H at) → state.limiter ≡ l
    → r ≡ held (limits_of known b) l (free_right case known (state_at H at) b) → r ≡ right_by case H known at (slice_get case.blocks at)
right_held case H known at b state l r here has is value =
    let Q : Limiter → Type 0 = λ l. r ≡ held (limits_of known b) l (free_right case known (state_at H at) b) in
    let R : Option Block → Type 0 = λ o. r ≡ right_by case H known at o in
    subst R (sym here) (subst Q (sym is ∙ has.limiter_is) value)

pub right_all : (case : Parts) (H : List StepRecord) (known rhs : List ℤ) → length rhs ≡ length case.blocks → ((i : ℕ) → i < length case.blocks → item rhs i ≡ right_by case H known i (slice_get case.blocks i)) → rhs ≡ right case H known
unfolding right
right_all case H known rhs long each = fill_by_all (λ i. right_by case H known i (slice_get case.blocks i)) rhs (length case.blocks) (pos 0) long each

-- ---- a row

entry_is : (case : Parts) (k : ℤ) (inputs : List Input) (l : Limiter) (i j : ℕ) → All (λ (i : Input). i.var < length case.vars) inputs → row_entry (place_in (places_of case)) k inputs l i j ≡ row_entry (block_of case) k inputs l i j
entry_is case k inputs Free i j all = ap (λ z. unit i j +ℤ z) (total_same (λ n. coupling_by k j n (place_in (places_of case) n.var)) (λ n. coupling_by k j n (block_of case n.var)) (λ (i : Input). i.var < length case.vars) inputs all (λ n below. ap (coupling_by k j n) (place_is case n.var below)))
entry_is case k inputs AtHigh i j all = refl
entry_is case k inputs AtLow i j all = refl

pub row_entry_is : (case : Parts) (k : ℤ) (b : Block) (l l' : Limiter) (i j : ℕ) (x : ℤ) → All (λ (i : Input). i.var < length case.vars) b.inputs → k ≡ step_gain case.run.dt b → l ≡ l' → x ≡ row_entry (place_in (places_of case)) k b.inputs l i j → x ≡ row_entry (block_of case) (step_gain case.run.dt b) b.inputs l' i j
row_entry_is case k b l l' i j x all gain same is =
    is ∙ entry_is case k b.inputs l i j all ∙ ap (λ z. row_entry (block_of case) z b.inputs l i j) gain ∙ ap (λ m. row_entry (block_of case) (step_gain case.run.dt b) b.inputs m i j) same
