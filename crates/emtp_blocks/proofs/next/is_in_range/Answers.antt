use Rattle.std.proofs.Common.{◌≡◌, ◌^◌, sym, false, arith}
use Rattle.std.proofs.lemmas.Bool.Decides.{nat_tests}
use Rattle.emtp_elim.specs.Matrix.{item}
use Rattle.emtp_fix.specs.Limit.{is_within}
use Rattle.emtp_blocks.proofs.Chains.{each_false}
use Rattle.emtp_blocks.proofs.next.is_in_range.Goals as goal

pub returns-then-unsigned_abs-gt-LARGEST_CHAIN : goal.returns-then-unsigned_abs-gt-LARGEST_CHAIN
returns-then-unsigned_abs-gt-LARGEST_CHAIN c =
    let out : is_within (10 ^ 36) (item c.args.chain.now c.loop-j.j) ≡ false = grind (arith, nat_tests) in
    sym (each_false (10 ^ 36) c.args.chain.now c.loop-j.j c.args.order (omega arith) out)
