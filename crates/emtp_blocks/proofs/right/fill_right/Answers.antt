use Rattle.std.proofs.Common.{◌≡◌, ◌<◌, ◌^◌, length, slice_get, to_z, of_z, arith}
use mir.Syntax.{w128}
use Rattle.emtp_fix.proofs.Wide.{through}
use Rattle.emtp_blocks.specs.System.{right_by}
use Rattle.emtp_blocks.proofs.Chains.{set_done, set_first}
use Rattle.emtp_blocks.proofs.Systems.{right_all}
use Rattle.emtp_blocks.proofs.right.fill_right.Goals as goal

pub loop-at-preserved : goal.loop-at-preserved
loop-at-preserved c =
    let case = c.args.diagram.now.case.now.parts in
    let at = c.loop-at.at in
    let r : to_z w128 (of_z w128 c.right_of.result) ≡ c.right_of.result = through _ (omega (arith, c.right_of.ensures.small)) in
    let inside : at < length c.loop-at.rhs = omega (arith, c.requires.rhs) in
    record {
      done = λ H stands. rw r (set_done (λ i. right_by case H c.args.known.now i (slice_get case.blocks i)) c.loop-at.rhs at c.right_of.result inside (c.right_of.ensures.value H (λ b here. stands at b here)) (c.loop-at.invariant.done H stands));
      small = rw r (set_first (10 ^ 36) c.loop-at.rhs at c.right_of.result inside c.right_of.ensures.small c.loop-at.invariant.small);
    }

pub returns-clause-value : goal.returns-clause-value
returns-clause-value c = λ H stands.
    let all : c.loop-at.at ≡ length c.args.diagram.now.case.now.parts.blocks = omega arith in
    right_all c.args.diagram.now.case.now.parts H c.args.known.now c.loop-at.rhs (omega (arith, c.requires.rhs)) (λ i below. c.loop-at.invariant.done H stands i (omega (arith, all, below)))
