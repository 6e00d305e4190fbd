use Rattle.std.proofs.Common.{◌≡◌, ◌≤◌, ◌^◌, ◌+ℤ◌, ap, slice_set, unsigned_abs, to_z, of_z, arith, ℤ}
use mir.Syntax.{w128}
use Rattle.std.proofs.lemmas.Int.{ints}
use Rattle.emtp_fix.proofs.Wide.{fits, through}
use Rattle.emtp_elim.specs.Matrix.{item}
use Rattle.emtp_net.proofs.sums.add_to.Goals as goal

added : (x y : ℤ) → unsigned_abs x ≤ 10 ^ 38 → unsigned_abs y ≤ 10 ^ 35 → to_z w128 (of_z w128 (to_z w128 (of_z w128 x) +ℤ to_z w128 (of_z w128 y))) ≡ x +ℤ y
added x y small little = rw (through x (omega arith), through y (omega arith)) (through (x +ℤ y) (omega (arith, ints)))

pub overflow_add-out : goal.overflow_add-out
overflow_add-out c =
    rw (through (item c.args.out.now c.args.at) (omega (arith, c.requires.entry)), through c.args.amount (omega (arith, c.requires.amount)))
    (fits _ (omega (arith, ints, c.requires.entry, c.requires.amount)))

pub returns : goal.returns
returns c = ap (λ (z : ℤ). slice_set c.args.out.now c.args.at z) (added (item c.args.out.now c.args.at) c.args.amount c.requires.entry c.requires.amount)
