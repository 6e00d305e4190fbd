use Rattle.std.proofs.Common.{◌≡◌, ◌^◌, ℕ, ap, subst, sym, ◌∙◌}
use Rattle.emtp_comtrade.specs.Multiplier.{multiplier_in, multiplier_of}
use Rattle.emtp_comtrade.specs.held.Multiplier.{IsMultiplier}
use Rattle.emtp_comtrade.proofs.LeastMultiplier.{multiplier_from-here, multiplier_from-end, IsMultiplier-multiplier_of}
use Rattle.emtp_comtrade.proofs.multiplier.least_multiplier.Goals as goal
use Rattle.emtp_comtrade.specs.declared.limit.TheConstants.{LARGEST_MULTIPLIER}

pub returns-in-Some-clause-value : goal.returns-in-Some-clause-value
returns-in-Some-clause-value c =
    let found : c.multiplier_in.result ≡ multiplier_in (10 ^ c.loop-power.power) c.args.greatest =
    c.multiplier_in.ensures.value ∙ ap (λ (unit : ℕ). multiplier_in unit c.args.greatest) c.power_of_ten.ensures.value in
    sym (c.loop-power.invariant ∙ multiplier_from-here c.loop-power.power c.args.greatest c.in-Some.multiplier c.multiplier_in.result c.loop-power-test.true found c.in-Some.is)

pub returns-in-Some-clause-least : goal.returns-in-Some-clause-least
returns-in-Some-clause-least c =
    let found : c.multiplier_in.result ≡ multiplier_in (10 ^ c.loop-power.power) c.args.greatest =
    c.multiplier_in.ensures.value ∙ ap (λ (unit : ℕ). multiplier_in unit c.args.greatest) c.power_of_ten.ensures.value in
    let is : c.in-Some.multiplier ≡ multiplier_of c.args.greatest = sym (c.loop-power.invariant ∙ multiplier_from-here c.loop-power.power c.args.greatest c.in-Some.multiplier c.multiplier_in.result c.loop-power-test.true found c.in-Some.is) in
    subst (IsMultiplier c.args.greatest) (sym is) (IsMultiplier-multiplier_of c.args.greatest c.requires)

pub returns-clause-least : goal.returns-clause-least
returns-clause-least c =
    let is : multiplier_of c.args.greatest ≡ LARGEST_MULTIPLIER =
    c.loop-power.invariant ∙ multiplier_from-end c.loop-power.power c.args.greatest c.loop-power-test.false c.loop-power.auto.power-end in
    subst (IsMultiplier c.args.greatest) is (IsMultiplier-multiplier_of c.args.greatest c.requires)
