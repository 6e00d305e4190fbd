use Rattle.std.proofs.Common.{◌≤◌, ◌-ℤ◌, ℤ, FitsSigned, pos, unsigned_abs, arith}
use mir.Syntax.{w64}
use Rattle.std.proofs.lemmas.Int.{fits_signed_from_abs, to_z-of_z}
use Rattle.emtp_fix.specs.declared.limit.TheConstants.{LARGEST_VALUE}
use Rattle.emtp_fix.proofs.Wide.{abs-sub-le, through_64}
use Rattle.emtp_fix.specs.Items.{item}
use Rattle.emtp_switch.proofs.states.view_of.Goals as goal

-- the difference of two values fits
difference_fits : (a b : ℤ) → unsigned_abs a ≤ LARGEST_VALUE → unsigned_abs b ≤ LARGEST_VALUE → FitsSigned w64 (a -ℤ b)
difference_fits a b p q = fits_signed_from_abs w64 (a -ℤ b) (omega (arith, abs-sub-le a b, p, q))

pub overflow_sub-result : goal.overflow_sub-result
overflow_sub-result c =
    let from = item c.args.last.voltages.now c.args.switch.now.from in
    let to = item c.args.last.voltages.now c.args.switch.now.to in
    let from_small : unsigned_abs from ≤ LARGEST_VALUE = c.requires.small c.args.switch.now.from (pos 0) c.requires.from in
    let to_small : unsigned_abs to ≤ LARGEST_VALUE = c.requires.small c.args.switch.now.to (pos 0) c.requires.to in
    rw (through_64 from from_small, through_64 to to_small) (difference_fits from to from_small to_small)

pub returns-clause-voltage : goal.returns-clause-voltage
returns-clause-voltage c =
    let from = item c.args.last.voltages.now c.args.switch.now.from in
    let to = item c.args.last.voltages.now c.args.switch.now.to in
    let from_small : unsigned_abs from ≤ LARGEST_VALUE = c.requires.small c.args.switch.now.from (pos 0) c.requires.from in
    let to_small : unsigned_abs to ≤ LARGEST_VALUE = c.requires.small c.args.switch.now.to (pos 0) c.requires.to in
    rw (through_64 from from_small, through_64 to to_small) (to_z-of_z w64 (from -ℤ to) (difference_fits from to from_small to_small))
