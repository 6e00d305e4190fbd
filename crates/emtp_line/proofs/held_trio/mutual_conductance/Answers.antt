use Rattle.std.proofs.Common.{◌≡◌, ◌-ℤ◌, pos, FitsSigned, arith}
use mir.Syntax.{w64, w128}
use Rattle.std.proofs.lemmas.Int.{ints, to_z-of_z, fits_signed_from_abs}
use Rattle.emtp_fix.specs.Rounding.{near}
use Rattle.emtp_line.proofs.Bounds.{mutual_small}
use Rattle.emtp_line.proofs.held_trio.mutual_conductance.Goals as goal

is_mutual : (c : goal.After-near) → c.near.result ≡ near (c.args.zero -ℤ c.args.positive) (pos 3)
is_mutual c =
    let zero' : FitsSigned w64 c.args.zero = c.ranges.zero in
    let positive : FitsSigned w64 c.args.positive = c.ranges.positive in
    let apart : FitsSigned w64 (c.args.zero -ℤ c.args.positive) = fits_signed_from_abs w64 (c.args.zero -ℤ c.args.positive) (omega (arith, ints, c.requires.zero.least, c.requires.zero.most, c.requires.positive.least, c.requires.positive.most)) in
    let apart' : FitsSigned w128 (c.args.zero -ℤ c.args.positive) = fits_signed_from_abs w128 (c.args.zero -ℤ c.args.positive) (omega (arith, ints, c.requires.zero.least, c.requires.zero.most, c.requires.positive.least, c.requires.positive.most)) in
    simp to_z-of_z at c.near.ensures.value

pub returns-clause-value : goal.returns-clause-value
returns-clause-value c = omega (arith, ints, is_mutual c, mutual_small c.args.zero c.args.positive c.requires.zero c.requires.positive)

pub returns-clause-small : goal.returns-clause-small
returns-clause-small c = omega (arith, ints, is_mutual c, mutual_small c.args.zero c.args.positive c.requires.zero c.requires.positive)
