use Rattle.std.proofs.Common.{◌≡◌, ◌∙◌, ◌<◌, ◌≤◌, ◌++◌, ap, sym, subst, drop, get_or, length, map, pos, take, unsigned_abs, ℤ, arith}
use Rattle.std.proofs.lemmas.List.{length-map, take_at}
use Rattle.std.proofs.lemmas.List.Elements.{All-map}
use Rattle.emtp_elim.specs.Matrix.{item}
use Rattle.emtp_expr.specs.held.Value.{AreInRange}
use Rattle.emtp_fix.specs.declared.limit.TheConstants.{LARGEST_VALUE}
use Rattle.emtp_tacs.proofs.formula.formula_value.Goals as goal

pub eval-requires-clause-values : goal.eval-requires-clause-values
eval-requires-clause-values c =
    let vars = c.args.formula.now.vars in
    let values = c.args.values.now in
    let long : length c.copy_values.new.out ≡ c.len-count.result = omega (arith, ap length c.copy_values.ensures, length-map vars (item values), c.len-count.ensures) in
    let is : take c.len-count.result (c.copy_values.new.out ++ drop c.len-count.result c.args.names.now) ≡ map (item values) vars = take_at c.copy_values.new.out (drop c.len-count.result c.args.names.now) c.len-count.result long ∙ c.copy_values.ensures in
    subst AreInRange (sym is) (All-map (λ (v : ℤ). unsigned_abs v ≤ LARGEST_VALUE) (item values) vars (λ k d below.
    let there : get_or vars k d < length values = omega (arith, c.requires.formula.names k d below, c.requires.values.one_each) in
    c.requires.values.small (get_or vars k d) (pos 0) there))
