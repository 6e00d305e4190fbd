use Rattle.std.proofs.Common.{◌≡◌, ◌∙◌, ◌≤◌, ap, arith, length, length-take, refl, sym, take, take-take}
use Rattle.std.proofs.Math.Nat.{min-le_left, min-le_right}
use Rattle.emtp_rows.specs.Nodal.{nodal_matrix}
use Rattle.emtp_rows.specs.held.Touched.{NodalRows}
use Rattle.emtp_tail.specs.Good.{first_change}
use Rattle.emtp_tail.specs.held.Good.{Good}
use Rattle.emtp_tail.proofs.Redoing.{first_change_law}
use Rattle.emtp_rows.proofs.NodalRows.{length-nodal_matrix}
use Rattle.emtp_net.proofs.factor.NodalMatrix.follow.Goals as goal

pub changed_from-first-requires : goal.changed_from-first-requires
changed_from-first-requires g c =
    record {
      size =
          let new = c.take_touched.new.self.nodal in
          let stays = ap (λ (s : NodalRows). length s.nodal.case.nodes) c.take_touched.ensures.rest in
          c.requires.size ∙ sym (length-nodal_matrix new ∙ stays);
      before =
          let n = c.min-from.result in
          let first : n ≤ c.args.self.now.rows.touched = omega (arith, c.min-from.ensures, min-le_left c.take_touched.result c.good.result, c.take_touched.ensures.first) in
          let there : n ≤ length c.args.self.now.kept.rows = omega (arith, c.min-from.ensures, min-le_right c.take_touched.result c.good.result, c.good.ensures.count) in
          ap (λ (s : NodalRows). take n (nodal_matrix s.nodal)) c.take_touched.ensures.rest ∙ c.requires.stands n first there;
      from = omega (arith, c.min-from.ensures, min-le_right c.take_touched.result c.good.result, c.good.ensures.count);
    }

pub overflow_sub-size : goal.overflow_sub-size
overflow_sub-size g c =
    let new = c.take_touched.new.self.nodal in
    let stays = ap (λ (s : NodalRows). length s.nodal.case.nodes) c.take_touched.ensures.rest in
    let fits : length c.args.self.now.kept.rows ≤ length (nodal_matrix new) = omega (arith, c.good.ensures.count, c.good.ensures.within, c.requires.size, length-nodal_matrix new, stays) in
    let law = first_change_law c.args.self.now.kept.rows (nodal_matrix new) fits in
    let same = ap (λ (k : Good). k.size) c.changed_from-first.ensures.same in
    omega (arith, c.changed_from-first.ensures.first, law.within, c.good.ensures.count, c.good.ensures.within, c.size.ensures, same)

pub update_from-requires : goal.update_from-requires
update_from-requires g c =
    record {
      size =
          let new = c.take_touched.new.self.nodal in
          let stays = ap (λ (s : NodalRows). length s.nodal.case.nodes) c.take_touched.ensures.rest in
          rw c.changed_from-first.ensures.same (c.requires.size ∙ sym (length-nodal_matrix new ∙ stays));
      first = rw c.changed_from-first.ensures.same c.changed_from-first.ensures.first;
    }

pub count-requires : goal.count-requires
count-requires g c =
    let size = ap (λ (k : Good). k.size) c.changed_from-first.ensures.same in
    record { few = c.requires.few; rows = omega (arith, c.size.ensures, size, c.requires.size, c.requires.nodes) }

pub returns-in-Ok : goal.returns-in-Ok
returns-in-Ok g c =
    let nodal = ap (λ (s : NodalRows). s.nodal) c.take_touched.ensures.rest in
    let size = ap (λ (k : Good). k.size) c.changed_from-first.ensures.same in
    let first : c.changed_from-first.result ≡ first_change c.args.self.now.kept.rows (nodal_matrix c.args.self.now.rows.nodal) = c.changed_from-first.ensures.first ∙ ap (λ n. first_change c.args.self.now.kept.rows (nodal_matrix n)) nodal in
    record {
      nodal = nodal;
      size = c.update_from.ensures.size ∙ size;
      stands = λ m early few. ap (take m) (sym c.in-Ok.ensures.rows);
      follows = record {
        redone = rw (c.count.ensures.value, c.size.ensures, size, first) refl;
        good = c.in-Ok.ensures.rows ∙ ap nodal_matrix nodal;
        ticks = omega (arith, c.in-Ok.ensures.ticks, first, size);
        fault = tt;
        ends = tt;
        fault_ticks = tt;
      };
      few = c.count.ensures.most;
    }

pub returns-in-Err : goal.returns-in-Err
returns-in-Err g c =
    let new = c.take_touched.new.self.nodal in
    let nodal = ap (λ (s : NodalRows). s.nodal) c.take_touched.ensures.rest in
    let size = ap (λ (k : Good). k.size) c.changed_from-first.ensures.same in
    let nodes = ap (λ (s : NodalRows). length s.nodal.case.nodes) c.take_touched.ensures.rest in
    let first : c.changed_from-first.result ≡ first_change c.args.self.now.kept.rows (nodal_matrix c.args.self.now.rows.nodal) = c.changed_from-first.ensures.first ∙ ap (λ n. first_change c.args.self.now.kept.rows (nodal_matrix n)) nodal in
    let row = c.in-Err.fault.row in
    let kept = ap length c.in-Err.ensures.prefix in
    record {
      nodal = nodal;
      size = c.update_from.ensures.size ∙ size;
      stands = λ m early few. sym (ap (take m) c.in-Err.ensures.prefix ∙ take-take m row (nodal_matrix new) (omega (arith, few, kept, length-take row (nodal_matrix new))));
      follows = record {
        redone = rw (c.count.ensures.value, c.size.ensures, size, first) refl;
        good = tt;
        ticks = tt;
        fault = rw nodal at c.in-Err.ensures.fault;
        ends = λ right. rw nodal at (c.in-Err.ensures.ends right);
        fault_ticks = omega (arith, c.in-Err.ensures.fault_ticks, first, c.in-Err.ensures.fault.within, length-nodal_matrix new, nodes, c.requires.size);
      };
      few = c.count.ensures.most;
    }
