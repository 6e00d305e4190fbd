use Rattle.std.proofs.Common.{◌*ℤ◌, pos, FitsSigned, arith, rules}
use mir.Syntax.{w64}
use Rattle.std.proofs.lemmas.Int.{ints, to_z-of_z}
use Rattle.emtp_fix.proofs.Guessed.{IsGuess, is_guess}
use Rattle.emtp_fix.proofs.ratio.ratio_product.Goals as goal

is_near : (c : goal.After-wide_product-2) → IsGuess c.wide_product.result c.wide_product-2.result
is_near c =
    let x : FitsSigned w64 c.args.x = c.ranges.x in
    let m : FitsSigned w64 c.args.ratio = c.ranges.ratio in
    let w : FitsSigned w64 c.args.word = c.ranges.word in
    let four : FitsSigned w64 (pos 4 *ℤ c.args.x) = search rules in
    is_guess c.args.ratio c.args.word c.args.x c.wide_product.result c.wide_product-2.result (simp to_z-of_z at c.wide_product.ensures.value) (simp to_z-of_z at c.wide_product-2.ensures.value)
    (omega (arith, c.requires.ratio)) (c.requires.word.low c.requires.ratio) (c.requires.word.high c.requires.ratio) (omega arith)

pub guessed-requires-clause-a : goal.guessed-requires-clause-a
guessed-requires-clause-a c = let is = is_near c in omega (arith, ints, is.small)

pub guessed-requires-clause-low : goal.guessed-requires-clause-low
guessed-requires-clause-low c = let is = is_near c in omega (arith, ints, is.small, is.low, is.high)

pub guessed-requires-clause-high : goal.guessed-requires-clause-high
guessed-requires-clause-high c = let is = is_near c in omega (arith, ints, is.small, is.low, is.high)
