use Rattle.std.proofs.Common.{◌∙◌, arith}
use Rattle.std.proofs.lemmas.List.{take_at}
use Rattle.emtp_phasor.proofs.sources.brought_by_row.Goals as goal

pub returns-clause-value : goal.returns-clause-value
returns-clause-value c = take_at c.fill_brought.new.out _ c.in_ok-brought.brought.len (omega (arith, c.fill_brought.auto.out, c.deref_mut.ensures.len)) ∙ c.fill_brought.ensures.value

pub returns-clause-small : goal.returns-clause-small
returns-clause-small c = rw (take_at c.fill_brought.new.out _ c.in_ok-brought.brought.len (omega (arith, c.fill_brought.auto.out, c.deref_mut.ensures.len))) c.fill_brought.ensures.small
