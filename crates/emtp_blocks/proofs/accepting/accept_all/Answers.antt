use Rattle.std.proofs.Common.{◌≡◌, ◌∙◌, sym, ap, subst, ◌<◌, ◌^◌, Some, All, length, get_or, slice_get, arith}
use Rattle.std.proofs.lemmas.List.Elements.{All-set}
use Rattle.emtp_case.specs.declared.control.Block.{Block}
use Rattle.emtp_blocks.specs.held.Block.{HasState, IsKept}
use Rattle.emtp_blocks.specs.held.BlockRows.{no_kept}
use Rattle.emtp_blocks.specs.System.{state_at}
use Rattle.emtp_case.specs.declared.control.BlockState.{BlockState}
use Rattle.emtp_blocks.proofs.OneByOne.{accepted_more, left_more, same_more, first_out_is, all_small}
use Rattle.emtp_blocks.proofs.Chains.{set_first}
use Rattle.emtp_blocks.proofs.accepting.accept_all.Goals as goal

pub returns-in-None-clause-value : goal.returns-in-None-clause-value
returns-in-None-clause-value c = λ H stands.
    let case = c.args.diagram.now.case.now.parts in
    let at = c.loop-at.at in
    let left = c.loop-at.invariant.left at (omega arith) in
    let has : (b : Block) → slice_get case.blocks at ≡ Some b → HasState b.order (get_or c.loop-at.states at no_kept) (state_at H at) = λ b here.
    let P : BlockState → Type 0 = λ k. HasState b.order k (state_at H at) in subst P (sym left) (stands at b here) in
    first_out_is case H c.args.values.now.known.now c.args.values.now.solved.now at (omega arith) (c.in-None.ensures.out H has) (c.loop-at.invariant.accepted H stands).in_range

pub returns-clause-value : goal.returns-clause-value
returns-clause-value c = λ H stands.
    let all : c.loop-at.at ≡ length c.args.diagram.now.case.now.parts.blocks = omega arith in
    rw all at (c.loop-at.invariant.accepted H stands)

pub loop-at-preserved : goal.loop-at-preserved
loop-at-preserved c =
    let case = c.args.diagram.now.case.now.parts in
    let at = c.loop-at.at in
    let a = c.in-Some.accepted in
    let taken = c.in-Some.ensures.taken in
    let there : at < length c.loop-at.states = omega (arith, c.requires.state_each) in
    let there' : at < length c.loop-at.out = omega (arith, c.requires.out) in
    let left = c.loop-at.invariant.left at (omega arith) in
    let states = taken.states in
    let out = c.put.ensures.out in
    record {
      fit = rw states (All-set IsKept c.loop-at.states at taken.state taken.kept c.loop-at.invariant.fit);
      accepted = λ H stands.
          let has : (b : Block) → slice_get case.blocks at ≡ Some b → HasState b.order (get_or c.loop-at.states at no_kept) (state_at H at) = λ b here.
          let P : BlockState → Type 0 = λ k. HasState b.order k (state_at H at) in subst P (sym left) (stands at b here) in
          rw (states, out) (accepted_more case c.loop-at.states c.loop-at.out H c.args.values.now.known.now c.args.values.now.solved.now at (record { output = a.output; state = taken.state }) there there' (taken.gives H has) (c.loop-at.invariant.accepted H stands));
      small = rw out (set_first (10 ^ 18) c.loop-at.out at a.output there' taken.small c.loop-at.invariant.small);
      left = rw states (left_more c.loop-at.states c.args.states.now at taken.state c.loop-at.invariant.left);
      same = λ still.
          let told = c.put.ensures.moved still in
          rw states (same_more c.loop-at.states c.args.states.now at taken.state there (ap (λ (k : BlockState). k.limiter) (sym left) ∙ taken.same told.1) (c.loop-at.invariant.same told.0));
    }

pub returns-clause-small : goal.returns-clause-small
returns-clause-small c =
    let all : c.loop-at.at ≡ length c.args.diagram.now.case.now.parts.blocks = omega arith in
    let long : length c.loop-at.out ≡ length c.args.diagram.now.case.now.parts.blocks = omega (arith, c.requires.out) in
    record { one_each = long; small = all_small (10 ^ 18) c.loop-at.out (λ i below. c.loop-at.invariant.small i (omega (arith, below, all, long))) }

pub returns-in-None-clause-kept : goal.returns-in-None-clause-kept
returns-in-None-clause-kept c = subst (All IsKept) (sym c.in-None.ensures.stays) c.loop-at.invariant.fit

pub accept_one-requires-clause-state : goal.accept_one-requires-clause-state
accept_one-requires-clause-state c = c.loop-at.invariant.fit c.loop-at.at no_kept (omega (arith, c.requires.state_each))
