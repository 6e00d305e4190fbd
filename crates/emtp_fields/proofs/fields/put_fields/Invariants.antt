use Rattle.std.proofs.Common.{◌≡◌, ◌+◌, ◌++◌, ◌≤◌}
use Rattle.emtp_fields.specs.Fields.{fields_up_to}
use Rattle.emtp_warnings.specs.ColumnWarnings.{first_to}
use Rattle.emtp_fields.proofs.fields.put_fields.Given as goal

-- the fields of the columns so far are told, and the next column's begins where it is said
abbrev pub invariant-loop-at : goal.invariant-loop-at
invariant-loop-at l = record {
  first : l.first ≡ first_to l.ruler l.at;
  some : 1 ≤ l.first;
  order : l.first ≤ l.at + 1;
  told : l.out.items ≡ l.initial.out.items ++ fields_up_to l.ruler l.line l.kind l.at;
}
