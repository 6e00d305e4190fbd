use Rattle.std.proofs.Common.{◌≡◌, pos, refl, arith}
use Rattle.std.proofs.lemmas.Int.{ints}
use Rattle.emtp_taccards.proofs.device_card.code_of.Goals as goal

pub returns-in-51 : goal.returns-in-51
returns-in-51 c =
    let is : c.args.number ≡ pos 51 = omega (arith, ints, c.ranges.number.sfits) in
    rw is refl

pub returns-in-52 : goal.returns-in-52
returns-in-52 c =
    let is : c.args.number ≡ pos 52 = omega (arith, ints, c.ranges.number.sfits) in
    rw is refl

pub returns-in-53 : goal.returns-in-53
returns-in-53 c =
    let is : c.args.number ≡ pos 53 = omega (arith, ints, c.ranges.number.sfits) in
    rw is refl

pub returns-in-54 : goal.returns-in-54
returns-in-54 c =
    let is : c.args.number ≡ pos 54 = omega (arith, ints, c.ranges.number.sfits) in
    rw is refl

pub returns-in-56 : goal.returns-in-56
returns-in-56 c =
    let is : c.args.number ≡ pos 56 = omega (arith, ints, c.ranges.number.sfits) in
    rw is refl

pub returns-in-57 : goal.returns-in-57
returns-in-57 c =
    let is : c.args.number ≡ pos 57 = omega (arith, ints, c.ranges.number.sfits) in
    rw is refl

pub returns-in-58 : goal.returns-in-58
returns-in-58 c =
    let is : c.args.number ≡ pos 58 = omega (arith, ints, c.ranges.number.sfits) in
    rw is refl

pub returns-in-59 : goal.returns-in-59
returns-in-59 c =
    let is : c.args.number ≡ pos 59 = omega (arith, ints, c.ranges.number.sfits) in
    rw is refl

pub returns-in-60 : goal.returns-in-60
returns-in-60 c =
    let is : c.args.number ≡ pos 60 = omega (arith, ints, c.ranges.number.sfits) in
    rw is refl

pub returns-in-62 : goal.returns-in-62
returns-in-62 c =
    let is : c.args.number ≡ pos 62 = omega (arith, ints, c.ranges.number.sfits) in
    rw is refl

pub returns-in-63 : goal.returns-in-63
returns-in-63 c =
    let is : c.args.number ≡ pos 63 = omega (arith, ints, c.ranges.number.sfits) in
    rw is refl

pub returns-in-64 : goal.returns-in-64
returns-in-64 c =
    let is : c.args.number ≡ pos 64 = omega (arith, ints, c.ranges.number.sfits) in
    rw is refl

pub returns-in-65 : goal.returns-in-65
returns-in-65 c =
    let is : c.args.number ≡ pos 65 = omega (arith, ints, c.ranges.number.sfits) in
    rw is refl

pub returns-in-66 : goal.returns-in-66
returns-in-66 c =
    let is : c.args.number ≡ pos 66 = omega (arith, ints, c.ranges.number.sfits) in
    rw is refl
