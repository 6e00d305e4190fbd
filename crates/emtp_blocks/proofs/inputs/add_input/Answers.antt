use Rattle.std.proofs.Common.{◌≡◌, ◌∙◌, ◌+ℤ◌, ap, Option, sym, subst, length, ◌<◌, refl, to_z, of_z, ℕ, arith}
use mir.Syntax.{w64, w128}
use Rattle.std.proofs.lemmas.Int.{ints}
use Rattle.std.specs.Option.{ForSome}
use Rattle.emtp_elim.specs.Matrix.{item}
use Rattle.emtp_blocks.specs.System.{coupling_by}
use Rattle.emtp_blocks.proofs.Couplings.{column_more}
use Rattle.emtp_blocks.proofs.inputs.add_input.Goals as goal

pub returns-in-Some : goal.returns-in-Some
returns-in-Some c = record {
  value = λ j below.
      let k = c.args.gain in
      let k' : to_z w64 (of_z w64 k) ≡ k = omega (arith, ints, c.requires.gain) in
      let n : to_z w64 (of_z w64 c.negated.result) ≡ c.negated.result = omega (arith, ints, c.negated.ensures.small) in
      let turned = rw k' at c.negated.ensures.value in
      let is = rw (n, turned) at c.signed.ensures.value in
      let wide : to_z w128 (of_z w128 c.signed.result) ≡ c.signed.result = omega (arith, ints, c.signed.ensures.small) in
      let narrow : to_z w64 (of_z w64 c.signed.result) ≡ c.signed.result = omega (arith, ints, c.signed.ensures.small) in
      let set = rw (narrow, wide) at c.add_to.ensures in
      let R : Option ℕ → Type 0 = λ p. ForSome p (λ m. m < length c.args.out.now) in
      let there = subst R c.in-Some.is c.requires.place c.in-Some.j refl in
      let P : Option ℕ → Type 0 = λ p. item c.add_to.new.out j ≡ item c.args.out.now j +ℤ coupling_by k j c.args.input.now p in
      subst P (sym c.in-Some.is) (ap (λ row. item row j) set ∙ column_more k c.args.input.now c.args.out.now c.in-Some.j j c.signed.result there is);
}
