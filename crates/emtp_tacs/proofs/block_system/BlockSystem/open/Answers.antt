use Rattle.std.proofs.Common.{◌∙◌, ap, length, arith}
use Rattle.std.proofs.lemmas.Bool.{false≢true}
use Rattle.emtp_blocks.proofs.Matrices.{length-control_matrix}
use Rattle.emtp_blocks.specs.held.BlockRows.{limiters_kept}
use Rattle.emtp_case.specs.declared.case.Parts.{Parts}
use Rattle.emtp_tail.specs.held.Good.{Good}
use Rattle.emtp_tacs.proofs.block_system.BlockSystem.open.Goals as goal

pub returns-clause-holds : goal.returns-clause-holds
returns-clause-holds c =
    let blocks = c.in_ok-blocks.blocks in
    record {
      case_is = c.in_ok-blocks.ensures.case;
      kept_size = ap (λ (k : Good). k.size) c.in_ok-kept.ensures ∙ length-control_matrix blocks.case (limiters_kept blocks.states) ∙ ap (λ (p : Parts). length p.blocks) c.in_ok-blocks.ensures.case;
      current = λ e. absurd (false≢true e);
      right = omega (arith, c.in_ok-right.ensures.len, c.in_ok-right.right.ok.0, c.len-count.ensures);
      x = omega (arith, c.in_ok-x.ensures.len, c.in_ok-x.x.ok.0, c.len-count.ensures);
    }
