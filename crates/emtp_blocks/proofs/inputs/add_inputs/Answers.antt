use Rattle.std.proofs.Common.{◌≡◌, ◌+ℤ◌, false, take_all, to_z, of_z, ℤ, arith}
use mir.Syntax.{w64}
use Rattle.std.proofs.lemmas.Int.{ints}
use Rattle.emtp_case.specs.declared.control.Input.{Input}
use Rattle.emtp_fix.proofs.Wide.{through_64}
use Rattle.emtp_blocks.specs.held.BlockRows.{place_in}
use Rattle.emtp_blocks.specs.System.{coupling_by}
use Rattle.emtp_case.proofs.Sums.{total-more}
use Rattle.emtp_blocks.proofs.Couplings.{part_small}
use Rattle.emtp_blocks.proofs.inputs.add_inputs.Goals as goal

pub add_input-requires-clause-entries : goal.add_input-requires-clause-entries
add_input-requires-clause-entries c =
    let k' : to_z w64 (of_z w64 c.args.gain) ≡ c.args.gain = through_64 c.args.gain c.requires.gain in
    let is = rw k' at c.loop-input.invariant in
    part_small c.args.gain (place_in c.args.places.now) c.args.inputs.now c.loop-input.input-index c.args.out.now c.loop-input.out c.requires.gain c.requires.few (omega arith) c.requires.entries is

pub loop-input-preserved : goal.loop-input-preserved
loop-input-preserved c = λ j below.
    let d : Input = record { var = 0; minus = false } in
    let k' : to_z w64 (of_z w64 c.args.gain) ≡ c.args.gain = through_64 c.args.gain c.requires.gain in
    let f = λ (n : Input). coupling_by c.args.gain j n (place_in c.args.places.now n.var) in
    let more = total-more f c.args.inputs.now c.loop-input.input-index d c.loop-input-test.true in
    let before = rw k' at (c.loop-input.invariant j (omega arith)) in
    let here = rw k' at (c.add_input.ensures.value j (omega arith)) in
    rw k' (added _ _ _ _ _ _ here before more)
  where
    added : (a b s p q t : ℤ) → a ≡ b +ℤ q → b ≡ s +ℤ p → t ≡ p +ℤ q → a ≡ s +ℤ t
    added a b s p q t here before more = omega (arith, ints, here, before, more)

pub returns : goal.returns
returns c = λ j below.
    let k' : to_z w64 (of_z w64 c.args.gain) ≡ c.args.gain = through_64 c.args.gain c.requires.gain in
    let all = take_all c.loop-input.input-index c.args.inputs.now (omega arith) in
    rw all at (rw k' at (c.loop-input.invariant j (omega arith)))
