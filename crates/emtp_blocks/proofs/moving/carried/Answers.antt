use Rattle.std.proofs.Common.{◌≡◌, ◌∙◌, ◌+◌, ap, sym, unsigned_abs, arith}
use Rattle.emtp_blocks.specs.Block.{carried}
use Rattle.emtp_blocks.proofs.Chains.{carried_small, carried_next, carried_through, chain_number_small, chain_number-more, chain_through, error_through}
use Rattle.emtp_blocks.proofs.moving.carried.Goals as goal

pub link-carried-requires : goal.link-carried-requires
link-carried-requires c =
    let s = c.args.state.now in
    let j = c.loop-j.j in
    record {
      carried = omega (arith, ap unsigned_abs c.loop-j.invariant.sum, carried_small s j c.requires.state);
      here = omega (arith, ap unsigned_abs (chain_through s j c.requires.state), c.requires.state.chain_small j);
      before = omega (arith, ap unsigned_abs c.loop-j.invariant.last, chain_number_small s j c.requires.state);
      error = omega (arith, ap unsigned_abs (error_through s j c.requires.state), c.requires.state.errors_small j);
    }

pub loop-j-preserved : goal.loop-j-preserved
loop-j-preserved c =
    let s = c.args.state.now in
    let j = c.loop-j.j in
    let next = carried_next s j _ _ c.link-carried.result c.requires.state c.loop-j.invariant.sum c.loop-j.invariant.last c.link-carried.ensures in
    record {
      sum = carried_through s (j + 1) c.link-carried.result c.requires.state (omega arith) next ∙ next;
      last = chain_through s j c.requires.state ∙ sym (chain_number-more s.chain j);
    }

pub returns-clause-value : goal.returns-clause-value
returns-clause-value c =
    let s = c.args.state.now in
    let last : c.loop-j.j ≡ c.args.order = omega arith in
    c.loop-j.invariant.sum ∙ ap (carried s.errors s.chain) last

pub returns-clause-small : goal.returns-clause-small
returns-clause-small c = omega (arith, ap unsigned_abs c.loop-j.invariant.sum, carried_small c.args.state.now c.loop-j.j c.requires.state)
