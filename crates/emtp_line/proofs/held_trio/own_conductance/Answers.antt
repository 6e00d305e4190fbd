use Rattle.std.proofs.Common.{◌≡◌, ◌+ℤ◌, ◌*ℤ◌, pos, FitsSigned, arith}
use mir.Syntax.{w64, w128}
use Rattle.std.proofs.lemmas.Int.{ints, to_z-of_z, fits_signed_from_abs}
use Rattle.emtp_fix.specs.Rounding.{near}
use Rattle.emtp_line.proofs.Bounds.{own_range}
use Rattle.emtp_line.proofs.held_trio.own_conductance.Goals as goal

is_own : (c : goal.After-near) → c.near.result ≡ near (c.args.zero +ℤ pos 2 *ℤ c.args.positive) (pos 3)
is_own c =
    let zero' : FitsSigned w64 c.args.zero = c.ranges.zero in
    let positive : FitsSigned w64 c.args.positive = c.ranges.positive in
    let twice : FitsSigned w64 (pos 2 *ℤ c.args.positive) = fits_signed_from_abs w64 (pos 2 *ℤ c.args.positive) (omega (arith, ints, c.requires.positive.least, c.requires.positive.most)) in
    let sum : FitsSigned w64 (c.args.zero +ℤ pos 2 *ℤ c.args.positive) = fits_signed_from_abs w64 (c.args.zero +ℤ pos 2 *ℤ c.args.positive) (omega (arith, ints, c.requires.zero.least, c.requires.zero.most, c.requires.positive.least, c.requires.positive.most)) in
    let sum' : FitsSigned w128 (c.args.zero +ℤ pos 2 *ℤ c.args.positive) = fits_signed_from_abs w128 (c.args.zero +ℤ pos 2 *ℤ c.args.positive) (omega (arith, ints, c.requires.zero.least, c.requires.zero.most, c.requires.positive.least, c.requires.positive.most)) in
    simp to_z-of_z at c.near.ensures.value

pub returns-clause-value : goal.returns-clause-value
returns-clause-value c =
    let is = is_own c in
    let range = own_range c.args.zero c.args.positive c.requires.zero c.requires.positive in
    omega (arith, ints, is, range.least, range.most)

pub returns-clause-range : goal.returns-clause-range
returns-clause-range c =
    let is = is_own c in
    let range = own_range c.args.zero c.args.positive c.requires.zero c.requires.positive in
    record { least = omega (arith, ints, is, range.least, range.most); most = omega (arith, ints, is, range.least, range.most) }
