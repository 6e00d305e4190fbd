-- Taking the outputs into one block after the other.
use Rattle.std.proofs.Common.{◌≡◌, ◌≢◌, ◌∙◌, sym, ap, subst, ℕ, ◌+◌, ◌<◌, ◌≤◌, ℤ, pos, unsigned_abs, List, [], ◌∷◌, All, length, map, get_or, slice_get, slice_set, get_or-set_same, get_or-set_other, IsSome, is_none, Option, Some, None, unwrap_or, refl, inl, inr, arith}
use Rattle.std.proofs.lemmas.Bool.{cases_eq}
use Rattle.std.proofs.lemmas.List.{ext_get_or, get_or-map, get_or_default, length-map}
use Rattle.std.proofs.lemmas.List.FromFn.{get_or-map-range_with_len, fill_by_all}
use Rattle.std.proofs.lemmas.Option.{slice_get_within, slice_get-get_or}
use Rattle.emtp_case.proofs.Places.{first_at, first_none, is_none-some}
use Rattle.emtp_case.specs.StepRecord.{StepRecord, no_block}
use Rattle.emtp_case.specs.declared.control.BlockState.{BlockState}
use Rattle.emtp_case.specs.declared.case.Parts.{Parts}
use Rattle.emtp_case.specs.declared.control.Block.{Block}
use Rattle.emtp_case.specs.declared.control.Limiter.{Limiter}
use Rattle.emtp_case.specs.declared.control.Limiter.TheVariants.{Free}
use Rattle.emtp_case.specs.declared.control.Bound.TheVariants.{None as NoBound}
use Rattle.emtp_elim.specs.Matrix.{item}
use Rattle.emtp_blocks.specs.held.Block.{HasState}
use Rattle.emtp_blocks.specs.held.BlockRows.{AreAccepted, BlockAfter, Gives, Blocking, StandsAt, StandsFor, limiters_kept, no_kept}
use Rattle.emtp_blocks.specs.System.{first_out, next_at, output_at, outputs, states_after, limiters_of, state_at}

pub first_out_is : (case : Parts) (H : List StepRecord) (known xs : List ℤ) (i : ℕ) → i < length case.blocks → next_at case H known xs i ≡ None → ((k : ℕ) → k < i → IsSome (next_at case H known xs k)) → first_out case H known xs ≡ Some i
first_out_is case H known xs i below none before = first_at (λ k. is_none (next_at case H known xs k)) (length case.blocks) i below (λ k h. is_none-some _ (before k h)) (ap is_none none)

pub none_out_is : (case : Parts) (H : List StepRecord) (known xs : List ℤ) → ((k : ℕ) → k < length case.blocks → IsSome (next_at case H known xs k)) → first_out case H known xs ≡ None
none_out_is case H known xs before = first_none (λ k. is_none (next_at case H known xs k)) (length case.blocks) (λ k h. is_none-some _ (before k h))

-- one block more
pub accepted_more : (case : Parts) (states : List BlockState) (out : List ℤ) (H : List StepRecord) (known xs : List ℤ) (at : ℕ) (a : BlockAfter) → at < length states → at < length out → Gives a case H known xs at
    → AreAccepted case states out H known xs at → AreAccepted case (slice_set states at a.state) (slice_set out at a.output) H known xs (at + 1)
accepted_more case states out H known xs at a there there' gives before = record {
  in_range = λ i below. elim (cases_eq i at) [
    | inl same ↦ rw same gives.0
    | inr ne ↦ before.in_range i (omega (arith, below, ne))
  ];
  outputs_are = λ i below. elim (cases_eq i at) [
    | inl same ↦ rw (same, get_or-set_same) gives.1
    | inr ne ↦ rw get_or-set_other (before.outputs_are i (omega (arith, below, ne)))
  ];
  states_are = λ i s b below is here. elim (cases_eq i at) [
    | inl same ↦ rw (same, get_or-set_same) (gives.2 s b (ap (next_at case H known xs) (sym same) ∙ is) (ap (slice_get case.blocks) (sym same) ∙ here))
    | inr ne ↦ rw get_or-set_other (before.states_are i s b (omega (arith, below, ne)) is here)
  ];
}

pub left_more : (states start : List BlockState) (at : ℕ) (k : BlockState) → ((i : ℕ) → at ≤ i → get_or states i no_kept ≡ get_or start i no_kept) → (i : ℕ) → at + 1 ≤ i → get_or (slice_set states at k) i no_kept ≡ get_or start i no_kept
left_more states start at k before i below =
    let ne : i ≢ at = λ e. absurd (omega (arith, below, e)) in
    rw get_or-set_other (before i (omega (arith, below)))

pub same_more : (states start : List BlockState) (at : ℕ) (k : BlockState) → at < length states → (get_or start at no_kept).limiter ≡ k.limiter → ((i : ℕ) → i < at → (get_or start i no_kept).limiter ≡ (get_or states i no_kept).limiter)
    → (i : ℕ) → i < at + 1 → (get_or start i no_kept).limiter ≡ (get_or (slice_set states at k) i no_kept).limiter
same_more states start at k there here before i below = elim (cases_eq i at) [
  | inl same ↦ rw (same, get_or-set_same) here
  | inr ne ↦ rw get_or-set_other (before i (omega (arith, below, ne)))
]

-- the outputs of all blocks
pub outputs_all : (case : Parts) (out : List ℤ) (H : List StepRecord) (known xs : List ℤ) → length out ≡ length case.blocks → ((i : ℕ) → i < length case.blocks → item out i ≡ output_at case H known xs i) → out ≡ outputs case H known xs
unfolding outputs
outputs_all case out H known xs long each = fill_by_all (output_at case H known xs) out (length case.blocks) (pos 0) long each

-- a record that keeps of the blocks what the definition says
pub stands_next : (case : Parts) (states : List BlockState) (out : List ℤ) (H : List StepRecord) (known xs : List ℤ) (r : StepRecord) → AreAccepted case states out H known xs (length case.blocks) → r.blocks ≡ states_after case H known xs → (i : ℕ) → StandsAt case states (r ∷ H) i
unfolding states_after
stands_next case states out H known xs r accepted is i = λ b here.
    let below : i < length case.blocks = slice_get_within case.blocks i b here in
    let some = accepted.in_range i below in
    let kept : get_or r.blocks i no_block ≡ unwrap_or (next_at case H known xs i) no_block =
    ap (λ bs. get_or bs i no_block) is ∙ get_or-map-range_with_len (λ k. unwrap_or (next_at case H known xs k) no_block) 0 (length case.blocks) i i no_block below (omega arith) in
    let found : next_at case H known xs i ≡ Some (unwrap_or (next_at case H known xs i) no_block) = some_is _ some in
    let P : BlockState → Type 0 = λ s. HasState b.order (get_or states i no_kept) s in
    subst P (sym kept) (accepted.states_are i _ b below found here)
  where
    some_is : (o : Option BlockState) → IsSome o → o ≡ Some (unwrap_or o no_block)
    some_is None h = absurd (cc)
    some_is (Some s) h = refl

pub limiters_same : (xs ys : List BlockState) → length xs ≡ length ys → ((i : ℕ) → i < length xs → (get_or xs i no_kept).limiter ≡ (get_or ys i no_kept).limiter) → limiters_kept xs ≡ limiters_kept ys
limiters_same xs ys long each =
    let f : BlockState → Limiter = λ k. k.limiter in
    ext_get_or Free (map f xs) (map f ys) (length-map xs f ∙ long ∙ sym (length-map ys f)) (λ i below.
    let inside : i < length xs = omega (arith, below, length-map xs f) in
    get_or-map f xs i no_kept Free inside ∙ each i inside ∙ sym (get_or-map f ys i no_kept Free (omega (arith, inside, long))))

no_card : Block
no_card = record { line = 0; var = 0; order = 0; inputs = []; gain = pos 0; top = []; bottom = []; low = NoBound; high = NoBound }

-- where the value stands for the records, its limiters are theirs
pub limiters_are : (s : Blocking) (H : List StepRecord) → StandsFor s H → limiters_kept s.states ≡ limiters_of s.case H
limiters_are s H stands =
    fill_by_all (λ i. (state_at H i).limiter) (limiters_kept s.states) (length s.case.blocks) Free (length-map s.states (λ (k : BlockState). k.limiter) ∙ stands.one_each) (λ i below.
    get_or-map (λ (k : BlockState). k.limiter) s.states i no_kept Free (omega (arith, below, stands.one_each)) ∙ (stands.blocks i _ (slice_get-get_or s.case.blocks i no_card below)).limiter_is)

pub all_small : (limit : ℕ) (xs : List ℤ) → ((i : ℕ) → i < length xs → unsigned_abs (item xs i) ≤ limit) → All (λ v. unsigned_abs v ≤ limit) xs
all_small limit xs each = λ k d below. rw (get_or_default xs k d (pos 0) below) (each k below)
