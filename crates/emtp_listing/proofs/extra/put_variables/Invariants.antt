use Rattle.std.proofs.Common.{codes, map, take}
use Rattle.emtp_listing.specs.Entry.{variable_entry}
use Rattle.emtp_listing.specs.Lines.{all_separated}
use Rattle.emtp_listing.specs.Puts.{Puts}
use Rattle.emtp_listing.proofs.extra.put_variables.Given as goal

abbrev pub invariant-loop-var : goal.invariant-loop-var
invariant-loop-var l = Puts l.initial.out.items (all_separated (map (variable_entry (codes "names") l.parts.vars) (take l.var-index l.vars))) l.out.items
