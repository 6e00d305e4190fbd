use Rattle.std.proofs.Common.{◌≤◌, ◌^◌, ap, unsigned_abs, FitsSigned, arith}
use mir.Syntax.{w32, w128}
use Rattle.std.proofs.lemmas.Int.{ints, to_z-of_z}
use Rattle.emtp_fix.proofs.Wide.{through}
use Rattle.emtp_audit.proofs.Limits.{read_number_of-limit}
use Rattle.emtp_audit.proofs.numbers.decimal.Goals as goal

pub returns-in-Ok-clause-limit : goal.returns-in-Ok-clause-limit
returns-in-Ok-clause-limit c =
    let scale : FitsSigned w32 c.args.scale = c.ranges.scale in
    let fits : FitsSigned w128 c.args.limit = c.ranges.limit in
    let limit : unsigned_abs c.args.limit ≤ 10 ^ 36 = omega (arith, ints, c.requires.limit_low, c.requires.limit_high) in
    let read = simp to_z-of_z at c.in-Ok.ensures.value in
    let small = read_number_of-limit c.args.text.now c.args.scale c.args.limit c.in-Ok.value read in
    omega (arith, small, ap unsigned_abs (through c.in-Ok.value (omega (arith, small, limit))))
