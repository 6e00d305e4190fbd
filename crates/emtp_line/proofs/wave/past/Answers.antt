use Rattle.std.proofs.Common.{◌≡◌, ◌∙◌, ◌-◌, sym, pos, FitsSigned, arith, rules}
use mir.Syntax.{w64}
use Rattle.std.proofs.lemmas.Int.{ints, to_z-of_z}
use Rattle.emtp_hist.specs.History.{value_before}
use Rattle.emtp_line.proofs.Bounds.{between-whole}
use Rattle.emtp_line.proofs.wave.past.Goals as goal

pub returns-then-mode-eq0 : goal.returns-then-mode-eq0
returns-then-mode-eq0 c = λ waves remembers.
    let none : c.args.mode.now.rest ≡ pos 0 = omega (arith, ints) in
    let r : FitsSigned w64 c.back-newer.result = search rules in
    to_z-of_z w64 c.back-newer.result r ∙ c.back-newer.ensures waves remembers
    ∙ sym (between-whole c.args.mode.now (value_before waves (c.args.mode.now.steps - 1)) (value_before waves c.args.mode.now.steps) none)

pub returns : goal.returns
returns c = λ waves remembers.
    let r : FitsSigned w64 c.interpolated.result = search rules in
    let newer : FitsSigned w64 c.back-newer.result = search rules in
    let older : FitsSigned w64 c.back.result = search rules in
    let is = rw (to_z-of_z w64 c.back-newer.result newer, to_z-of_z w64 c.back.result older) at c.interpolated.ensures in
    to_z-of_z w64 c.interpolated.result r ∙ (rw (c.back-newer.ensures waves remembers, c.back.ensures waves remembers) at is)
