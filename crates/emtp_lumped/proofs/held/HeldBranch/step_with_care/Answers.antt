use Rattle.std.proofs.Common.{◌-ℤ◌, sym, FitsSigned, rules}
use mir.Syntax.{w64, w128}
use Rattle.std.proofs.lemmas.Int.{to_z-of_z}
use Rattle.emtp_lumped.proofs.held.HeldBranch.step_with_care.Goals as goal

pub returns-in-None-clause-out : goal.returns-in-None-clause-out
returns-in-None-clause-out c = λ is.
    let v : FitsSigned w64 c.args.v = c.ranges.v in
    let w : FitsSigned w64 c.args.w = c.ranges.w in
    let v' : FitsSigned w128 c.args.v = search rules in
    let w' : FitsSigned w128 c.args.w = search rules in
    let dv : FitsSigned w128 (c.args.v -ℤ c.args.w) = search rules in
    sym (simp to_z-of_z at c.in-None.ensures.value)

pub returns-in-Some-clause-moved : goal.returns-in-Some-clause-moved
returns-in-Some-clause-moved c = λ is.
    let v : FitsSigned w64 c.args.v = c.ranges.v in
    let w : FitsSigned w64 c.args.w = c.ranges.w in
    let v' : FitsSigned w128 c.args.v = search rules in
    let w' : FitsSigned w128 c.args.w = search rules in
    let dv : FitsSigned w128 (c.args.v -ℤ c.args.w) = search rules in
    sym (simp to_z-of_z at c.in-Some.ensures.value)
