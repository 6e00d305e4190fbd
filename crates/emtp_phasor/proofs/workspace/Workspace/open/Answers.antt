use Rattle.std.proofs.Common.{◌≡◌, ◌∙◌, ◌*◌, ap, subst, length, arith}
use Rattle.emtp_elim.specs.held.Finished.{Finished}
use Rattle.emtp_elim.specs.held.WorkRow.{IsClearRow}
use Rattle.emtp_phasor.proofs.workspace.Workspace.open.Goals as goal

pub returns : goal.returns
returns c =
    let size : 2 * c.len-nodes.result ≡ 2 * length c.args.case.now.parts.nodes = omega (arith, c.len-nodes.ensures) in
    record {
      done_size = ap (λ (d : Finished). d.size) c.in_ok-done.ensures ∙ size;
      work_clear = subst (λ n. IsClearRow n c.in_ok-work.work) size c.in_ok-work.ensures;
      rhs_count = omega (arith, c.in_ok-rhs.ensures.len, c.in_ok-rhs.rhs.ok, c.len-nodes.ensures);
      x_count = omega (arith, c.in_ok-x.ensures.len, c.in_ok-x.x.ok, c.len-nodes.ensures);
      volts_count = omega (arith, c.in_ok-volts.ensures.len, c.in_ok-volts.volts.ok, c.len-nodes.ensures);
    }
