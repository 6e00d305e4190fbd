use Rattle.std.proofs.Common.{◌∙◌, arith}
use Rattle.std.proofs.lemmas.List.{take_at}
use Rattle.emtp_phasor.proofs.AtRest.{kinds_are, lawful_kinds}
use Rattle.emtp_phasor.proofs.resting_rows.row_kinds.Goals as goal

pub returns-in-Ok-clause-kinds : goal.returns-in-Ok-clause-kinds
returns-in-Ok-clause-kinds c =
    take_at c.kinds.new.out _ c.in_ok-kinds.kinds.len (omega (arith, c.kinds.auto.out, c.deref_mut.ensures.len))
    ∙ kinds_are c.args.case.now.parts c.args.order.now c.in_ok-switches.switches c.kinds.new.out c.requires.order c.in_ok-switches.ensures.case c.in_ok-switches.ensures.rows c.in_ok-switches.ensures.stands c.in-Ok.ensures.kinds

pub returns-in-Ok-clause-are : goal.returns-in-Ok-clause-are
returns-in-Ok-clause-are c =
    rw (take_at c.kinds.new.out _ c.in_ok-kinds.kinds.len (omega (arith, c.kinds.auto.out, c.deref_mut.ensures.len)))
    (lawful_kinds c.args.case.now.parts c.args.order.now c.in_ok-switches.switches c.kinds.new.out c.requires.order c.in_ok-switches.ensures.case c.in_ok-switches.ensures.rows c.in-Ok.ensures.are)
