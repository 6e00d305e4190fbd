use Rattle.std.proofs.Common.{◌≡◌, ◌∙◌, ◌≤◌, ap, pos, unsigned_abs, length, arith}
use Rattle.std.proofs.lemmas.Int.{ints}
use Rattle.std.proofs.lemmas.List.{length-replicate}
use Rattle.std.proofs.lemmas.List.Elements.{All-replicate}
use Rattle.emtp_case.specs.RowOrder.{Rows, order_of}
use Rattle.emtp_fix.specs.declared.limit.TheConstants.{LARGEST_ENTRY}
use Rattle.emtp_rows.specs.held.Terms.{IsSmall}
use Rattle.emtp_case.proofs.RowsOfNodes.{fixed_within}
use Rattle.emtp_rows.proofs.NodalRows.{kinds_from-AreKinds}
use Rattle.emtp_rows.proofs.net_rows.NetRows.open.Goals as goal

pub starting_kinds-requires : goal.starting_kinds-requires
starting_kinds-requires c =
    let case = c.args.case.now.parts in
    let fixed = ap (λ (o : Rows). o.fixed) c.requires in
    omega (arith, fixed, c.fixed-fixed.ensures, c.len-3.ensures, fixed_within case)

pub invariant_of-result : goal.invariant_of-result
invariant_of-result c =
    let case = c.args.case.now.parts in
    let fixed : c.fixed-fixed.result ≡ (order_of case).fixed = c.fixed-fixed.ensures ∙ ap (λ (o : Rows). o.fixed) c.requires in
    let zero : unsigned_abs (pos 0) ≤ LARGEST_ENTRY = omega (arith, ints) in
    record {
      fixed_is = fixed;
      touched_within = omega arith;
      ends_are = c.in_ok-ends.ensures;
      rows_count = c.in_ok-rows.ensures.count;
      terms = c.in_ok-rows.ensures.terms;
      own_count = ap length c.in_ok-own.ensures ∙ length-replicate c.len.result (pos 0) ∙ c.len.ensures;
      own_small = rw c.in_ok-own.ensures (All-replicate IsSmall c.len.result (pos 0) zero);
      mutual_count = ap length c.in_ok-coupling.ensures ∙ length-replicate c.len-2.result (pos 0) ∙ c.len-2.ensures;
      mutual_small = rw c.in_ok-coupling.ensures (All-replicate IsSmall c.len-2.result (pos 0) zero);
      kinds_are = rw (c.in_ok-kinds.ensures, c.len-3.ensures) (kinds_from-AreKinds (length case.nodes) c.fixed-fixed.result (omega (arith, fixed, fixed_within case)));
    }
