use Rattle.std.proofs.lemmas.Grind.{common_steps}
use Rattle.std.proofs.Common.{◌≡◌, ◌∷◌, ◌++◌, drop, reverse, take, min, ap, ◌∙◌, arith}
use Rattle.emtp_switch.proofs.Plans.{drop_least, take_least}
use Rattle.emtp_switch.proofs.plan.rank.Goals as goal

pub returns : goal.returns
returns c =
    let nodes = c.args.order.now.nodes in
    let fixed = c.args.order.now.fixed in
    let least = c.source_rows-fixed.result in
    let is = c.source_rows-fixed.ensures.value ∙ ap (min fixed) c.requires.rows in
    let last : c.loop-row-2.row ≡ least = omega (arith, c.loop-row-2.invariant.0, c.loop-row-2-test.false) in
    c.loop-row-2.invariant.1 ∙ ap (λ k. (0 ∷ take least nodes) ++ reverse (drop k nodes)) last
    ∙ ap (λ l. (0 ∷ l) ++ reverse (drop least nodes)) (take_least nodes fixed least is) ∙ ap (λ l. (0 ∷ take fixed nodes) ++ reverse l) (drop_least nodes fixed least is)

pub node_at-requires : goal.node_at-requires
node_at-requires c = omega (arith, c.requires.rows, c.source_rows-fixed.ensures.within)

pub loop-row-preserved : goal.loop-row-preserved
loop-row-preserved c = grind (arith, common_steps)

pub loop-row-2-preserved : goal.loop-row-2-preserved
loop-row-2-preserved c = grind (arith, common_steps)

pub loop-row-2-init : goal.loop-row-2-init
loop-row-2-init c = grind (arith, common_steps)

pub loop-row-2-smaller : goal.loop-row-2-smaller
loop-row-2-smaller c = omega arith
