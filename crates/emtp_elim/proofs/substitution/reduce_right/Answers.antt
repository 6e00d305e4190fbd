use Rattle.emtp_fix.specs.declared.limit.TheConstants.{LARGEST_VALUE}
use Rattle.std.proofs.Common.{rules, ◌≡◌, ◌≤◌, length, pos, unsigned_abs, FitsSigned, inl, inr, arith}
use mir.Syntax.{w128}
use Rattle.std.proofs.lemmas.Bool.{cases_lt}
use Rattle.std.proofs.lemmas.List.{get_or_past}
use Rattle.std.proofs.lemmas.Int.{to_z-of_z}
use Rattle.emtp_fix.proofs.Wide.{through_64}
use Rattle.emtp_elim.specs.Matrix.{item}
use Rattle.emtp_elim.proofs.Reduction.{reduced_more, right_fault}
use Rattle.emtp_elim.proofs.substitution.reduce_right.Goals as goal

pub returns-in-None-clause-fault : goal.returns-in-None-clause-fault
returns-in-None-clause-fault c =
    let start = item c.args.right.now c.loop-i.i in
    let fits : FitsSigned w128 start = search rules in
    let same = to_z-of_z w128 start fits in
    let out = rw same at c.in-None.ensures.out in
    right_fault c.args.done.now.rows c.args.right.now c.loop-i.x c.loop-i.i out.0 c.loop-i.invariant (omega arith) (omega arith) out.1 out.2

pub loop-i-preserved : goal.loop-i-preserved
loop-i-preserved c =
    let start = item c.args.right.now c.loop-i.i in
    let fits : FitsSigned w128 start = search rules in
    let same = to_z-of_z w128 start fits in
    let value_is = rw same at c.in-Some.ensures.value in
    let within = rw same at c.in-Some.ensures.within in
    let small : unsigned_abs c.in-Some.value ≤ LARGEST_VALUE = rw value_is (within c.loop-i.i (omega arith)) in
    rw (through_64 c.in-Some.value small) (reduced_more c.args.done.now.rows c.args.right.now c.loop-i.x c.loop-i.i c.in-Some.value c.loop-i.invariant (omega arith) (omega arith) (omega arith) value_is within)

pub returns-clause-within : goal.returns-clause-within
returns-clause-within c i = elim (cases_lt i (length c.loop-i.x)) [
  | inl inside ↦ c.loop-i.invariant.small i (omega (arith, c.loop-i-test.false, c.loop-i.auto.x))
  | inr outside ↦ rw (get_or_past c.loop-i.x i (pos 0) outside) (omega arith)
]

pub returns-clause-reduced : goal.returns-clause-reduced
returns-clause-reduced c =
    let all : c.loop-i.i ≡ length c.args.right.now = omega (arith, c.loop-i-test.false, c.loop-i.auto.i-end) in
    rw all at c.loop-i.invariant.reduced
