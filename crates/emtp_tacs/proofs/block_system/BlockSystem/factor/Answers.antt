use Rattle.std.proofs.Common.{◌∙◌, sym, ap, Err, arith}
use Rattle.emtp_blocks.specs.System.{right}
use Rattle.emtp_elim.specs.Outcome.{outcome}
use Rattle.emtp_tacs.proofs.Systems.{row_ends, rows_are, rows_size}
use Rattle.emtp_tacs.proofs.block_system.BlockSystem.factor.Goals as goal

pub update_from-requires-clause-size : goal.update_from-requires-clause-size
update_from-requires-clause-size g c = c.requires.holds.kept_size ∙ sym (rows_size c.args.case.now.parts c.args.self.now.blocks c.requires.holds.case_is)

pub row_fault-requires : goal.row_fault-requires
row_fault-requires g c = omega (arith, c.in-Err.ensures.fault.within, rows_size c.args.case.now.parts c.args.self.now.blocks c.requires.holds.case_is)

pub returns-in-Err-clause-most : goal.returns-in-Err-clause-most
returns-in-Err-clause-most g c = omega (arith, c.in-Err.ensures.fault_ticks, c.in-Err.ensures.fault.within, rows_size c.args.case.now.parts c.args.self.now.blocks c.requires.holds.case_is)

pub returns-in-Err-clause-fault : goal.returns-in-Err-clause-fault
returns-in-Err-clause-fault g c = λ H known stands.
    let case = c.args.case.now.parts in
    let is = ap (λ m. outcome m (right case H known)) (sym (rows_are case c.args.self.now.blocks H c.requires.holds.case_is stands)) ∙ c.in-Err.ensures.ends (right case H known) in
    row_ends case H known c.in-Err.fault is ∙ ap Err (sym c.row_fault.ensures.value)
