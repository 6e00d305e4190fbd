use Rattle.std.proofs.Common.{◌≡◌, to_z, of_z, arith}
use mir.Syntax.{w128}
use Rattle.std.proofs.lemmas.Int.{ints}
use Rattle.emtp_net.proofs.sums.add_in_rows.Goals as goal

pub returns : goal.returns
returns c = λ j below.
    let first : to_z w128 (of_z w128 c.args.ends.0) ≡ c.args.ends.0 = omega (arith, ints, c.requires.first) in
    let second : to_z w128 (of_z w128 c.args.ends.1) ≡ c.args.ends.1 = omega (arith, ints, c.requires.second) in
    let one = rw first at (c.add_in_row.ensures j below) in
    let two = rw second at (c.add_in_row-2.ensures j (omega (arith, below, c.add_in_row.auto.out))) in
    omega (arith, ints, one, two)
