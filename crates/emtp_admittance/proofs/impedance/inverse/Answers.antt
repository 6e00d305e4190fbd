use Rattle.std.proofs.Common.{◌≡◌, ◌∙◌, ◌*ℤ◌, ◌-ℤ◌, neg_ℤ, pos, ap, to_z, of_z, arith}
use mir.Syntax.{w64, w128}
use Rattle.std.proofs.lemmas.Int.{ints}
use Rattle.emtp_fix.specs.Rounding.{near}
use Rattle.emtp_fix.specs.declared.limit.TheConstants.{ATTO}
use Rattle.emtp_admittance.proofs.Reactances.{inverse_small, admittance_is}
use Rattle.emtp_admittance.proofs.impedance.inverse.Goals as goal

pub quotient-requires-clause-small : goal.quotient-requires-clause-small
quotient-requires-clause-small c =
    let part : to_z w128 (of_z w128 c.args.r) ≡ c.args.r = omega (arith, ints, c.requires.r) in
    let whole : to_z w128 (of_z w128 c.args.square) ≡ c.args.square = omega (arith, ints, c.requires.most) in
    rw (part, whole) (inverse_small c.args.r c.args.x c.args.square c.requires.square c.requires.least).0

pub quotient-requires-2-clause-small : goal.quotient-requires-2-clause-small
quotient-requires-2-clause-small c =
    let part : to_z w128 (of_z w128 c.args.x) ≡ c.args.x = omega (arith, ints, c.requires.x) in
    let whole : to_z w128 (of_z w128 c.args.square) ≡ c.args.square = omega (arith, ints, c.requires.most) in
    rw (part, whole) (inverse_small c.args.r c.args.x c.args.square c.requires.square c.requires.least).1

pub returns-clause-value : goal.returns-clause-value
returns-clause-value c =
    let r : to_z w128 (of_z w128 c.args.r) ≡ c.args.r = omega (arith, ints, c.requires.r) in
    let x : to_z w128 (of_z w128 c.args.x) ≡ c.args.x = omega (arith, ints, c.requires.x) in
    let whole : to_z w128 (of_z w128 c.args.square) ≡ c.args.square = omega (arith, ints, c.requires.most) in
    let one : c.quotient.result ≡ near (c.args.r *ℤ ATTO) c.args.square = rw (r, whole) at c.quotient.ensures.value in
    let two : c.quotient-2.result ≡ near (c.args.x *ℤ ATTO) c.args.square = rw (x, whole) at c.quotient-2.ensures.value in
    let first : to_z w64 (of_z w64 c.quotient.result) ≡ c.quotient.result = omega (arith, ints, c.quotient.ensures.small) in
    let second : to_z w64 (of_z w64 (pos 0 -ℤ to_z w64 (of_z w64 c.quotient-2.result))) ≡ neg_ℤ c.quotient-2.result = omega (arith, ints, c.quotient-2.ensures.small) in
    admittance_is _ _ _ _ (first ∙ one ∙ ap (near (c.args.r *ℤ ATTO)) c.requires.square) (second ∙ ap neg_ℤ (two ∙ ap (near (c.args.x *ℤ ATTO)) c.requires.square))
