use Rattle.emtp_fix.specs.declared.limit.TheConstants.{LARGEST_VALUE}
use Rattle.std.proofs.Common.{◌≡◌, ◌∙◌, sym, ap, ℕ, suc, not, ◌==◌, ◌<◌, true, false, to_z, of_z, refl, arith}
use mir.Syntax.{w64, w128}
use Rattle.std.proofs.lemmas.Int.{ints}
use Rattle.emtp_fix.proofs.Wide.{through, through_64}
use Rattle.std.specs.Ordering.{int_eq}
use Rattle.emtp_elim.specs.Matrix.{item}
use Rattle.emtp_fix.specs.Limit.{is_within}
use Rattle.emtp_blocks.specs.Block.{error_of, past_output, input_of, output_of, limiter_for}
use Rattle.emtp_blocks.proofs.NextStates.{next_is, next_none, moved_is, moved_kept, input_none, input_some, z_found, asked_alone}
use Rattle.emtp_blocks.proofs.next.step.Goals as goal

pub returns-in_default-clause-value : goal.returns-in_default-clause-value
returns-in_default-clause-value c = λ dt r law has.
    let b = c.args.block.now in
    let gain : to_z w64 (of_z w64 b.gain) ≡ b.gain = through_64 b.gain c.requires.gain in
    let s : to_z w64 (of_z w64 c.args.signals.sum) ≡ c.args.signals.sum = omega (arith, ints, c.requires.signals.sum) in
    let value = rw (gain, s) at c.in_default.ensures.value in
    let out = input_none (input_of b c.args.signals.sum) value in
    rw (next_none dt b c.args.limits.now r c.args.signals.solved c.args.signals.sum out) tt

pub returns-then-not-is_in_range-clause-value : goal.returns-then-not-is_in_range-clause-value
returns-then-not-is_in_range-clause-value c = λ dt r law has.
    let b = c.args.block.now in
    let limits = c.args.limits.now in
    let old = c.args.state.now in
    let l = c.args.law.now in
    let gain : to_z w64 (of_z w64 b.gain) ≡ b.gain = through_64 b.gain c.requires.gain in
    let s : to_z w64 (of_z w64 c.args.signals.sum) ≡ c.args.signals.sum = omega (arith, ints, c.requires.signals.sum) in
    let solved : to_z w64 (of_z w64 c.args.signals.solved) ≡ c.args.signals.solved = through_64 c.args.signals.solved c.requires.signals.solved in
    let x : to_z w64 (of_z w64 c.args.signals.output) ≡ c.args.signals.output = through_64 c.args.signals.output c.requires.signals.output in
    let u : to_z w64 (of_z w64 c.in-Some.u) ≡ c.in-Some.u = through_64 c.in-Some.u c.in-Some.ensures.small in
    let past : to_z w128 (of_z w128 c.past_at_limit-past.result) ≡ c.past_at_limit-past.result = through c.past_at_limit-past.result (omega (arith, c.past_at_limit-past.ensures.small)) in
    let h = past_output b.order old.errors old.chain in
    let z : to_z w128 (of_z w128 c.unlimited-z.result) ≡ c.unlimited-z.result = through c.unlimited-z.result (omega (arith, c.unlimited-z.ensures.small)) in
    let last : to_z w128 (of_z w128 c.last_error-last.result) ≡ c.last_error-last.result = through c.last_error-last.result (omega (arith, c.last_error-last.ensures.small)) in
    let value = rw (gain, s) at c.in-Some.ensures.value in
    let input = input_some c.in-Some.u (input_of b c.args.signals.sum) value in
    let small : is_within LARGEST_VALUE c.in-Some.u ≡ true = ap (is_within LARGEST_VALUE) input.1 ∙ input.0 in
    let z_is = z_found dt b l r old c.args.signals.solved c.in-Some.u h c.unlimited-z.result law has ((rw (past, solved, u) at c.unlimited-z.ensures.value) ∙ c.past_at_limit-past.ensures.value l.sum c.args.signals.solved c.in-Some.u) refl in
    let x_is : c.args.signals.output ≡ output_of limits r.limiter c.args.signals.solved = c.requires.signals.limited ∙ ap (λ m. output_of limits m c.args.signals.solved) has.limiter_is in
    let d = rw (x, z) at c.differs-clamped.ensures in
    let e = error_of (item l.numerators) (item l.denominators) c.in-Some.u c.args.signals.output b.order in
    let errors = rw (u, x) at c.errors-errors.ensures.value in
    let last_is = rw (d, u, x) at c.last_error-last.ensures.value in
    let given = rw (d, last) at c.replaced-chain.ensures.value in
    let chain = λ (j : ℕ) (below : j < b.order). given j below ∙ asked_alone (not (int_eq c.args.signals.output c.unlimited-z.result)) (suc j == b.order) c.last_error-last.result e (item c.chain.result j) last_is in
    let state = moved_is dt b limits r old l c.in-Some.u c.args.signals.output c.unlimited-z.result e c.errors-errors.result c.chain.result c.replaced-chain.result (limiter_for limits c.unlimited-z.result) c.requires.order law has refl errors refl c.chain.ensures.value chain in
    next_is dt b limits r c.args.signals.solved c.args.signals.sum c.in-Some.u c.args.signals.output c.unlimited-z.result _ false input.1 x_is z_is small c.if-not-is_in_range.ensures state

pub returns-clause-value : goal.returns-clause-value
returns-clause-value c = λ dt r law has.
    let b = c.args.block.now in
    let limits = c.args.limits.now in
    let old = c.args.state.now in
    let l = c.args.law.now in
    let gain : to_z w64 (of_z w64 b.gain) ≡ b.gain = through_64 b.gain c.requires.gain in
    let s : to_z w64 (of_z w64 c.args.signals.sum) ≡ c.args.signals.sum = omega (arith, ints, c.requires.signals.sum) in
    let solved : to_z w64 (of_z w64 c.args.signals.solved) ≡ c.args.signals.solved = through_64 c.args.signals.solved c.requires.signals.solved in
    let x : to_z w64 (of_z w64 c.args.signals.output) ≡ c.args.signals.output = through_64 c.args.signals.output c.requires.signals.output in
    let u : to_z w64 (of_z w64 c.in-Some.u) ≡ c.in-Some.u = through_64 c.in-Some.u c.in-Some.ensures.small in
    let past : to_z w128 (of_z w128 c.past_at_limit-past.result) ≡ c.past_at_limit-past.result = through c.past_at_limit-past.result (omega (arith, c.past_at_limit-past.ensures.small)) in
    let h = past_output b.order old.errors old.chain in
    let z : to_z w128 (of_z w128 c.unlimited-z.result) ≡ c.unlimited-z.result = through c.unlimited-z.result (omega (arith, c.unlimited-z.ensures.small)) in
    let last : to_z w128 (of_z w128 c.last_error-last.result) ≡ c.last_error-last.result = through c.last_error-last.result (omega (arith, c.last_error-last.ensures.small)) in
    let value = rw (gain, s) at c.in-Some.ensures.value in
    let input = input_some c.in-Some.u (input_of b c.args.signals.sum) value in
    let small : is_within LARGEST_VALUE c.in-Some.u ≡ true = ap (is_within LARGEST_VALUE) input.1 ∙ input.0 in
    let z_is = z_found dt b l r old c.args.signals.solved c.in-Some.u h c.unlimited-z.result law has ((rw (past, solved, u) at c.unlimited-z.ensures.value) ∙ c.past_at_limit-past.ensures.value l.sum c.args.signals.solved c.in-Some.u) refl in
    let x_is : c.args.signals.output ≡ output_of limits r.limiter c.args.signals.solved = c.requires.signals.limited ∙ ap (λ m. output_of limits m c.args.signals.solved) has.limiter_is in
    let d = rw (x, z) at c.differs-clamped.ensures in
    let e = error_of (item l.numerators) (item l.denominators) c.in-Some.u c.args.signals.output b.order in
    let errors = rw (u, x) at c.errors-errors.ensures.value in
    let last_is = rw (d, u, x) at c.last_error-last.ensures.value in
    let given = rw (d, last) at c.replaced-chain.ensures.value in
    let chain = λ (j : ℕ) (below : j < b.order). given j below ∙ asked_alone (not (int_eq c.args.signals.output c.unlimited-z.result)) (suc j == b.order) c.last_error-last.result e (item c.chain.result j) last_is in
    let limiter = rw z at c.limiter_for-state.ensures in
    let state = moved_is dt b limits r old l c.in-Some.u c.args.signals.output c.unlimited-z.result e c.errors-errors.result c.chain.result c.replaced-chain.result c.limiter_for-state.result c.requires.order law has limiter errors refl c.chain.ensures.value chain in
    next_is dt b limits r c.args.signals.solved c.args.signals.sum c.in-Some.u c.args.signals.output c.unlimited-z.result _ true input.1 x_is z_is small c.if-not-is_in_range.ensures state

pub returns-clause-kept : goal.returns-clause-kept
returns-clause-kept c = moved_kept c.args.block.now.order c.errors-errors.result c.chain.result c.replaced-chain.result c.limiter_for-state.result c.errors-errors.ensures.small (sym c.if-not-is_in_range.ensures) c.chain.ensures.past c.replaced-chain.ensures.past
