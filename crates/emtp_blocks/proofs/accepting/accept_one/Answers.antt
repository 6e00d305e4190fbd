use Rattle.std.proofs.Common.{◌≡◌, ◌∙◌, ◌<◌, ◌≤◌, sym, ap, subst, refl, ℕ, ℤ, List, All, pos, Some, None, length, get_or, slice_get, to_z, of_z, unsigned_abs, arith}
use mir.Syntax.{w64}
use Rattle.std.proofs.lemmas.Int.{ints}
use Rattle.std.proofs.lemmas.List.{get_or-set_same}
use Rattle.std.proofs.lemmas.Option.{slice_get-get_or}
use Rattle.emtp_case.specs.held.Sizes.{sizes_of}
use Rattle.emtp_case.specs.held.Control.{IsBlock}
use Rattle.emtp_case.specs.declared.case.Parts.{Parts}
use Rattle.emtp_case.specs.declared.control.Block.{Block}
use Rattle.emtp_case.specs.declared.control.BlockState.{BlockState}
use Rattle.emtp_case.specs.declared.control.Input.{Input}
use Rattle.emtp_elim.specs.Matrix.{item}
use Rattle.emtp_fix.proofs.Wide.{through_64}
use Rattle.emtp_fix.specs.declared.limit.TheConstants.{LARGEST_VALUE}
use Rattle.emtp_blocks.specs.held.BlockRows.{no_kept, no_law}
use Rattle.emtp_blocks.specs.Block.{limits_of, next_state, output_of}
use Rattle.emtp_blocks.specs.held.Block.{Keeps}
use Rattle.emtp_blocks.specs.System.{block_of, input_sum, state_at}
use Rattle.emtp_blocks.specs.declared.limits.Limits.{Limits}
use Rattle.emtp_blocks.proofs.Systems.{length-places_of, place_there, input_sum_is, gives_some, gives_none}
use Rattle.emtp_blocks.proofs.accepting.accept_one.Goals as goal

pub limits_in_step-limits-requires-clause-low : goal.limits_in_step-limits-requires-clause-low
limits_in_step-limits-requires-clause-low c =
    let case = c.args.diagram.now.case.now.parts in
    let b = c.index-as_slice-at.result in
    let read : b ≡ get_or case.blocks c.args.at b = rw c.as_slice.ensures at c.index-as_slice-at.is in
    let fits = let P = λ (y : Block). IsBlock case.run (sizes_of case) y in subst P (sym read) (c.args.diagram.now.case.now.fits.draft.control.blocks c.args.at b c.requires.there) in
    (sizes_of case, sym c.requires.values.known.one_each, fits.low)

pub limits_in_step-limits-requires-clause-high : goal.limits_in_step-limits-requires-clause-high
limits_in_step-limits-requires-clause-high c =
    let case = c.args.diagram.now.case.now.parts in
    let b = c.index-as_slice-at.result in
    let read : b ≡ get_or case.blocks c.args.at b = rw c.as_slice.ensures at c.index-as_slice-at.is in
    let fits = let P = λ (y : Block). IsBlock case.run (sizes_of case) y in subst P (sym read) (c.args.diagram.now.case.now.fits.draft.control.blocks c.args.at b c.requires.there) in
    (sizes_of case, sym c.requires.values.known.one_each, fits.high)

pub input_sum-s-requires-clause-places : goal.input_sum-s-requires-clause-places
input_sum-s-requires-clause-places c = ap length c.requires.diagram.places_are ∙ length-places_of c.args.diagram.now.case.now.parts ∙ sym c.requires.values.known.one_each

pub input_sum-s-requires-clause-blocks : goal.input_sum-s-requires-clause-blocks
input_sum-s-requires-clause-blocks c = λ k d below x is.
    let e = c.requires.diagram.places_are in
    let there = place_there c.args.diagram.now.case.now.parts k d x (rw e at below) (rw e at is) in
    omega (arith, there, c.requires.values.solved.one_each)

small_64 : (z : ℤ) → unsigned_abs z ≤ LARGEST_VALUE → unsigned_abs (to_z w64 (of_z w64 z)) ≤ LARGEST_VALUE
small_64 z small = subst (λ (y : ℤ). unsigned_abs y ≤ LARGEST_VALUE) (sym (through_64 z small)) small

pub returns-clause-taken : goal.returns-clause-taken
returns-clause-taken c = record {
  state = c.step.new.state;
  states = refl;
  same = λ told. c.is_same-same.ensures told ∙ ap (λ (s : BlockState). s.limiter) (get_or-set_same c.args.states.now c.args.at c.step.new.state no_kept (omega (arith, c.requires.there, c.requires.state_each)));
  kept = c.step.ensures.kept;
  small = small_64 c.output-x.result c.output-x.ensures.small;
  gives = λ H stands.
      let case = c.args.diagram.now.case.now.parts in
      let at = c.args.at in
      let known = c.args.values.now.known.now in
      let xs = c.args.values.now.solved.now in
      let b = c.index-as_slice-at.result in
      let size = ap length c.as_slice.ensures in
      let read : b ≡ get_or case.blocks at b = rw c.as_slice.ensures at c.index-as_slice-at.is in
      let here : slice_get case.blocks at ≡ Some b = slice_get-get_or case.blocks at b c.requires.there ∙ ap Some (sym read) in
      let fits = let P = λ (y : Block). IsBlock case.run (sizes_of case) y in subst P (sym read) (c.args.diagram.now.case.now.fits.draft.control.blocks at b c.requires.there) in
      let law = c.requires.diagram.laws_are at b c.requires.there here in
      let has = stands b here in
      let small = c.requires.values.solved.small at (pos 0) (omega (arith, c.requires.there, c.requires.values.solved.one_each)) in
      let solved : to_z w64 (of_z w64 (item xs at)) ≡ item xs at = through_64 (item xs at) small in
      let x : to_z w64 (of_z w64 c.output-x.result) ≡ c.output-x.result = through_64 _ c.output-x.ensures.small in
      let s : to_z w64 (of_z w64 c.input_sum-s.result) ≡ c.input_sum-s.result = omega (arith, ints, c.input_sum-s.ensures.small) in
      let lim = c.limits_in_step-limits.ensures.value in
      let out : c.output-x.result ≡ output_of (limits_of known b) (state_at H at).limiter (item xs at) =
      rw solved at c.output-x.ensures.value ∙ ap (λ (l : Limits). output_of l (get_or c.args.states.now at no_kept).limiter (item xs at)) lim ∙ ap (λ l. output_of (limits_of known b) l (item xs at)) has.limiter_is in
      let sum : c.input_sum-s.result ≡ input_sum (block_of case) known xs at c.output-x.result b.inputs =
      rw (x, c.as_slice-2.ensures, c.requires.diagram.places_are) at c.input_sum-s.ensures.value ∙ input_sum_is case known xs at c.output-x.result b.inputs fits.inputs in
      let keeps = c.if-not-step.ensures.value case.run.dt (state_at H at) law has in
      let K : Limits → ℤ → ℤ → Type 0 = λ l v n. Keeps b.order (Some c.step.new.state) (next_state case.run.dt b l (state_at H at) v n) in
      let K1 : Limits → Type 0 = λ l. K l (item xs at) c.input_sum-s.result in
      let K2 : ℤ → Type 0 = λ n. K (limits_of known b) (item xs at) n in
      let keeps' = subst K2 sum (subst K1 lim (rw (solved, s) at keeps)) in
      gives_some case H known xs at b (record { output = to_z w64 (of_z w64 c.output-x.result); state = c.step.new.state }) here (x ∙ out) (rw x keeps');
}

pub returns-then-not-step-clause-out : goal.returns-then-not-step-clause-out
returns-then-not-step-clause-out c = λ H stands.
    let case = c.args.diagram.now.case.now.parts in
    let at = c.args.at in
    let known = c.args.values.now.known.now in
    let xs = c.args.values.now.solved.now in
    let b = c.index-as_slice-at.result in
    let size = ap length c.as_slice.ensures in
    let read : b ≡ get_or case.blocks at b = rw c.as_slice.ensures at c.index-as_slice-at.is in
    let here : slice_get case.blocks at ≡ Some b = slice_get-get_or case.blocks at b c.requires.there ∙ ap Some (sym read) in
    let fits = let P = λ (y : Block). IsBlock case.run (sizes_of case) y in subst P (sym read) (c.args.diagram.now.case.now.fits.draft.control.blocks at b c.requires.there) in
    let law = c.requires.diagram.laws_are at b c.requires.there here in
    let has = stands b here in
    let small = c.requires.values.solved.small at (pos 0) (omega (arith, c.requires.there, c.requires.values.solved.one_each)) in
    let solved : to_z w64 (of_z w64 (item xs at)) ≡ item xs at = through_64 (item xs at) small in
    let x : to_z w64 (of_z w64 c.output-x.result) ≡ c.output-x.result = through_64 _ c.output-x.ensures.small in
    let s : to_z w64 (of_z w64 c.input_sum-s.result) ≡ c.input_sum-s.result = omega (arith, ints, c.input_sum-s.ensures.small) in
    let lim = c.limits_in_step-limits.ensures.value in
    let out : c.output-x.result ≡ output_of (limits_of known b) (state_at H at).limiter (item xs at) =
    rw solved at c.output-x.ensures.value ∙ ap (λ (l : Limits). output_of l (get_or c.args.states.now at no_kept).limiter (item xs at)) lim ∙ ap (λ l. output_of (limits_of known b) l (item xs at)) has.limiter_is in
    let sum : c.input_sum-s.result ≡ input_sum (block_of case) known xs at c.output-x.result b.inputs =
    rw (x, c.as_slice-2.ensures, c.requires.diagram.places_are) at c.input_sum-s.ensures.value ∙ input_sum_is case known xs at c.output-x.result b.inputs fits.inputs in
    let keeps = c.if-not-step.ensures.value case.run.dt (state_at H at) law has in
    let K : Limits → ℤ → ℤ → Type 0 = λ l v n. Keeps b.order None (next_state case.run.dt b l (state_at H at) v n) in
    let K1 : Limits → Type 0 = λ l. K l (item xs at) c.input_sum-s.result in
    let K2 : ℤ → Type 0 = λ n. K (limits_of known b) (item xs at) n in
    let K3 : ℤ → Type 0 = λ y. K (limits_of known b) (item xs at) (input_sum (block_of case) known xs at y b.inputs) in
    gives_none case H known xs at b here (subst K3 out (subst K2 sum (subst K1 lim (rw (solved, s) at keeps))))

-- ---- what is asked of the block, its law and its numbers

block_is : (case : Parts) (seen : List Block) (at : ℕ) (b : Block) → All (IsBlock case.run (sizes_of case)) case.blocks → at < length case.blocks → seen ≡ case.blocks → b ≡ get_or seen at b → IsBlock case.run (sizes_of case) b
block_is case seen at b fit there same read = subst (IsBlock case.run (sizes_of case)) (sym (read ∙ ap (λ (xs : List Block). get_or xs at b) same)) (fit at b there)

pub limits_in_step-limits-requires-clause-known : goal.limits_in_step-limits-requires-clause-known
limits_in_step-limits-requires-clause-known c = c.requires.values.known.small

pub output-x-requires-clause-high : goal.output-x-requires-clause-high
output-x-requires-clause-high c = c.limits_in_step-limits.ensures.high

pub output-x-requires-clause-low : goal.output-x-requires-clause-low
output-x-requires-clause-low c = c.limits_in_step-limits.ensures.low

pub output-x-requires-clause-solved : goal.output-x-requires-clause-solved
output-x-requires-clause-solved c = small_64 (item c.args.values.now.solved.now c.args.at) (c.requires.values.solved.small c.args.at (pos 0) (omega (arith, c.requires.there, c.requires.values.solved.one_each)))

pub input_sum-s-requires-clause-x : goal.input_sum-s-requires-clause-x
input_sum-s-requires-clause-x c = small_64 c.output-x.result c.output-x.ensures.small

pub input_sum-s-requires-clause-few : goal.input_sum-s-requires-clause-few
input_sum-s-requires-clause-few c = subst (λ (xs : List Input). length xs ≤ 5) (sym c.as_slice-2.ensures) (block_is c.args.diagram.now.case.now.parts c.as_slice.result.now c.args.at c.index-as_slice-at.result c.args.diagram.now.case.now.fits.draft.control.blocks c.requires.there c.as_slice.ensures c.index-as_slice-at.is).few_inputs

pub input_sum-s-requires-clause-there : goal.input_sum-s-requires-clause-there
input_sum-s-requires-clause-there c =
    let named = subst (λ n. All (λ (i : Input). i.var < n) c.index-as_slice-at.result.inputs) (sym c.requires.values.known.one_each) (block_is c.args.diagram.now.case.now.parts c.as_slice.result.now c.args.at c.index-as_slice-at.result c.args.diagram.now.case.now.fits.draft.control.blocks c.requires.there c.as_slice.ensures c.index-as_slice-at.is).inputs in
    subst (λ (xs : List Input). All (λ (i : Input). i.var < length c.args.values.now.known.now) xs) (sym c.as_slice-2.ensures) named

pub step-requires-clause-order : goal.step-requires-clause-order
step-requires-clause-order c = (block_is c.args.diagram.now.case.now.parts c.as_slice.result.now c.args.at c.index-as_slice-at.result c.args.diagram.now.case.now.fits.draft.control.blocks c.requires.there c.as_slice.ensures c.index-as_slice-at.is).order

pub step-requires-clause-gain : goal.step-requires-clause-gain
step-requires-clause-gain c = (block_is c.args.diagram.now.case.now.parts c.as_slice.result.now c.args.at c.index-as_slice-at.result c.args.diagram.now.case.now.fits.draft.control.blocks c.requires.there c.as_slice.ensures c.index-as_slice-at.is).gain

pub step-requires-clause-law : goal.step-requires-clause-law
step-requires-clause-law c = c.requires.diagram.laws_fit c.args.at no_law (omega (arith, c.requires.diagram.law_each, c.requires.there))

pub step-requires-clause-old : goal.step-requires-clause-old
step-requires-clause-old c = c.requires.state

pub step-requires-clause-signals : goal.step-requires-clause-signals
step-requires-clause-signals c = record {
  sum = omega (arith, ints, c.input_sum-s.ensures.small);
  solved = small_64 (item c.args.values.now.solved.now c.args.at) (c.requires.values.solved.small c.args.at (pos 0) (omega (arith, c.requires.there, c.requires.values.solved.one_each)));
  output = small_64 c.output-x.result c.output-x.ensures.small;
  limited = through_64 c.output-x.result c.output-x.ensures.small ∙ c.output-x.ensures.value;
}
