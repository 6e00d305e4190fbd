use Rattle.std.proofs.Common.{◌≡◌, ◌-◌, ◌∙◌, length, refl, sym, ap, arith}
use Rattle.std.proofs.lemmas.Int.{ints}
use Rattle.emtp_fix.proofs.Wide.{through_64}
use Rattle.emtp_elim.specs.Matrix.{item}
use Rattle.emtp_elim.proofs.KeptRows.{entry_small}
use Rattle.emtp_elim.proofs.Unknowns.{found_none, next_read, found_more, found_fault, in_place_small, in_place_more}
use Rattle.emtp_elim.proofs.substitution.substitute_back.Goals as goal

pub loop-k-init : goal.loop-k-init
loop-k-init c = record {
  found = found_none c.args.done.now.rows c.args.x.now c.args.x.now _ (omega arith) (omega arith);
  rest = λ h low. refl;
}

pub remainder-left-requires-clause-row : goal.remainder-left-requires-clause-row
remainder-left-requires-clause-row c =
    let sized : length c.loop-k.x ≡ c.args.done.now.size = omega arith in
    rw sized c.row-row.ensures.row

pub remainder-left-requires-clause-small : goal.remainder-left-requires-clause-small
remainder-left-requires-clause-small c = in_place_small c.args.done.now.rows c.args.x.now c.loop-k.x c.loop-k.k c.loop-k.invariant c.requires.right

pub unknown-requires-clause-left : goal.unknown-requires-clause-left
unknown-requires-clause-left c = omega (arith, ints, c.remainder-left.ensures.bound)

pub unknown-requires-clause-pivot : goal.unknown-requires-clause-pivot
unknown-requires-clause-pivot c =
    let row = c.row-row.ensures.row in
    let small_pivot = entry_small c.row-row.result.pivot row (omega arith) row.pivot_within in
    rw (through_64 (item c.row-row.result.values.now c.row-row.result.pivot) (omega (arith, small_pivot)), row.pivot_is) row.finished.nonzero

pub returns-in-None-clause-fault : goal.returns-in-None-clause-fault
returns-in-None-clause-fault c =
    let k = c.loop-k.k - 1 in
    let row = c.row-row.ensures.row in
    let small_pivot = entry_small c.row-row.result.pivot row (omega arith) row.pivot_within in
    let p_is = through_64 (item c.row-row.result.values.now c.row-row.result.pivot) (omega (arith, small_pivot)) in
    let left_is = rw (c.loop-k.invariant.rest k (omega arith)) at c.remainder-left.ensures.value in
    let next = next_read c.remainder-left.result _ _ row c.row-row.ensures.numbers c.loop-k.invariant.found (omega arith) (sym c.requires.full) (omega arith)
    left_is c.remainder-left.ensures.bound p_is refl in
    found_fault c.args.done.now.rows c.args.x.now c.loop-k.x c.loop-k.k k _ c.loop-k.invariant.found (omega arith) (omega arith) (omega arith) next c.in-None.ensures.out

pub loop-k-preserved : goal.loop-k-preserved
loop-k-preserved c =
    let k = c.loop-k.k - 1 in
    let row = c.row-row.ensures.row in
    let small_pivot = entry_small c.row-row.result.pivot row (omega arith) row.pivot_within in
    let p_is = through_64 (item c.row-row.result.values.now c.row-row.result.pivot) (omega (arith, small_pivot)) in
    let left_is = rw (c.loop-k.invariant.rest k (omega arith)) at c.remainder-left.ensures.value in
    let next = next_read c.remainder-left.result _ c.in-Some.unknown row c.row-row.ensures.numbers c.loop-k.invariant.found (omega arith) (sym c.requires.full) (omega arith)
    left_is c.remainder-left.ensures.bound p_is c.in-Some.ensures.value in
    rw (through_64 c.in-Some.unknown c.in-Some.ensures.within)
    (in_place_more c.args.done.now.rows c.args.x.now c.loop-k.x c.loop-k.k k c.in-Some.unknown c.loop-k.invariant (omega arith)
    (found_more c.args.done.now.rows c.args.x.now c.loop-k.x c.loop-k.k k c.in-Some.unknown c.loop-k.invariant.found (omega arith) (omega arith) (omega arith) next c.in-Some.ensures.within))

pub returns-clause-solved : goal.returns-clause-solved
returns-clause-solved c =
    let all : length c.args.done.now.rows - c.loop-k.k ≡ length c.args.done.now.rows = omega arith in
    let first : c.loop-k.k ≡ 0 = omega arith in
    rw (all, first) at c.loop-k.invariant.found.found
