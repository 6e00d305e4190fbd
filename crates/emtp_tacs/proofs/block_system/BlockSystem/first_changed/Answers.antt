use Rattle.std.proofs.Common.{◌∙◌, sym, ap, refl, take, arith}
use Rattle.emtp_tail.specs.held.Good.{Good}
use Rattle.emtp_tacs.proofs.Systems.{first_within, rows_size}
use Rattle.emtp_tacs.proofs.block_system.BlockSystem.first_changed.Goals as goal
use Rattle.emtp_tacs.proofs.block_system.BlockSystem.first_changed.Goals.{then-self, else-self}

pub changed_from-first-requires-clause-size : goal.changed_from-first-requires-clause-size
changed_from-first-requires-clause-size c = c.requires.holds.kept_size ∙ sym (rows_size c.args.case.now.parts c.args.self.now.blocks c.requires.holds.case_is)

pub overflow_sub-self : goal.overflow_sub-self
overflow_sub-self c =
    let same = ap (λ (k : Good). k.size) c.changed_from-first.ensures.same in
    omega (arith, first_within c.args.case.now.parts c.args.self.now.blocks c.args.self.now.kept.rows c.changed_from-first.result c.requires.holds.case_is c.changed_from-first.ensures.first, c.size.ensures, same, c.requires.holds.kept_size)

pub changed_from-first-requires-clause-from : goal.changed_from-first-requires-clause-from
changed_from-first-requires-clause-from c = elim c.if-self.branch [
  | then-self w ↦ omega (arith, w.from-is, w.good-from.ensures)
  | else-self w ↦ omega (arith, w.from-is)
]

pub changed_from-first-requires-clause-before : goal.changed_from-first-requires-clause-before
changed_from-first-requires-clause-before c = elim c.if-self.branch [
  | then-self w ↦ ap (take c.if-self.from) (sym (c.requires.holds.current w.if-self.true))
  | else-self w ↦ rw w.from-is refl
]
