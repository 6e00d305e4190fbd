use Rattle.std.proofs.Common.{◌≡◌, ◌<◌, ◌≤◌, length, to_z, of_z, arith}
use mir.Syntax.{w128}
use Rattle.std.proofs.lemmas.Int.{ints}
use Rattle.emtp_net.proofs.Nodes.{row_none, row_set}
use Rattle.emtp_net.proofs.sums.add_in_row.Goals as goal

pub add_to-requires-clause-entry : goal.add_to-requires-clause-entry
add_to-requires-clause-entry c =
    let inside : c.args.row < length c.args.out.now = omega arith in
    omega (arith, c.requires.bound c.args.row inside)

pub returns-then-row-out : goal.returns-then-row-out
returns-then-row-out c = λ j below.
    let inside : c.args.row < length c.args.out.now = omega arith in
    let wide : to_z w128 (of_z w128 c.args.amount) ≡ c.args.amount = omega (arith, ints, c.requires.small) in
    let set = rw wide at c.add_to.ensures in
    rw set (row_set c.args.out.now c.args.row j c.args.amount inside)

pub returns-else-row-out : goal.returns-else-row-out
returns-else-row-out c = λ j below.
    let past : length c.args.out.now ≤ c.args.row = omega arith in
    row_none c.args.out.now c.args.row j c.args.amount past below
