use Rattle.std.proofs.Common.{◌≡◌, subst, ℤ, List, Ok, arith}
use Rattle.emtp_elim.specs.Matrix.{Matrix}
use Rattle.emtp_elim.specs.Outcome.{outcome}
use Rattle.emtp_blocks.specs.held.BlockRows.{limiters_kept}
use Rattle.emtp_blocks.specs.System.{matrix}
use Rattle.emtp_blocks.proofs.Matrices.{length-control_matrix}
use Rattle.emtp_blocks.proofs.OneByOne.{all_small}
use Rattle.emtp_fix.specs.declared.limit.TheConstants.{LARGEST_VALUE}
use Rattle.emtp_tests_control.proofs.blocks.step.Goals as goal

pub eliminate_plain-requires-clause-rhs : goal.eliminate_plain-requires-clause-rhs
eliminate_plain-requires-clause-rhs c = omega (arith, c.history.auto.rhs, c.requires.rhs, length-control_matrix c.args.blocks.now.case (limiters_kept c.args.blocks.now.states))

pub eliminate_plain-requires-clause-x : goal.eliminate_plain-requires-clause-x
eliminate_plain-requires-clause-x c = omega (arith, c.requires.x, length-control_matrix c.args.blocks.now.case (limiters_kept c.args.blocks.now.states))

pub accept-requires-clause-x : goal.accept-requires-clause-x
accept-requires-clause-x c = record {
  one_each = omega (arith, c.eliminate_plain.auto.x, c.requires.x);
  small = all_small LARGEST_VALUE c.eliminate_plain.new.x (λ i below. c.in-Ok.ensures.within i);
}

pub returns-in-Ok-accept-clause-steps : goal.returns-in-Ok-accept-clause-steps
returns-in-Ok-accept-clause-steps c = λ H stands.
    let x = c.eliminate_plain.new.x in
    let P : Matrix → Type 0 = λ m. outcome m c.history.new.rhs ≡ Ok x in
    let Q : List ℤ → Type 0 = λ rhs. outcome (matrix c.args.blocks.now.case H) rhs ≡ Ok x in
    record {
      solution = x;
      solved = subst Q (c.history.ensures.value H stands) (subst P (c.rows_are_the_matrix.ensures H stands) c.in-Ok.ensures.solved);
      accepted = c.in-Ok-accept.ensures.value H stands;
    }
