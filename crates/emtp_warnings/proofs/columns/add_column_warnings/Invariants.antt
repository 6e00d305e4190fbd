use Rattle.emtp_warnings.specs.AddsTo.{AddsTo}
use Rattle.emtp_warnings.specs.ColumnWarnings.{first_to, run_to, up_to_column}
use Rattle.std.proofs.Common.{◌≡◌, ◌≤◌}
use Rattle.emtp_warnings.proofs.columns.add_column_warnings.Given as goal

abbrev pub invariant-loop-before : goal.invariant-loop-before
invariant-loop-before l = record {
  run : l.run ≡ run_to l.ruler l.line.bytes.now l.before;
  first : l.first ≡ first_to l.ruler l.before;
  begins : 1 ≤ l.first;
  added : AddsTo l.initial.out.items (up_to_column l.ruler l.line.number l.line.bytes.now l.before) l.out.items;
}
