use Rattle.std.proofs.Common.{◌≡◌, ◌∙◌, ◌<◌, ap, sym, get_or, length, map, pos, arith}
use Rattle.std.proofs.lemmas.List.{ext_get_or, get_or-map, length-map}
use Rattle.emtp_elim.specs.Matrix.{item}
use Rattle.emtp_tacs.proofs.formula.copy_values.Goals as goal

pub returns : goal.returns
returns c =
    let vars = c.args.formula.now.vars in
    let values = c.args.values.now in
    let same : c.as_slice-vars.result.now ≡ vars = c.as_slice-vars.ensures in
    let long : length c.loop-at.out ≡ length vars = omega (arith, c.requires.out, c.loop-at.auto.out) in
    let shown : length c.as_slice-vars.result.now ≡ length vars = ap length same in
    ext_get_or (pos 0) c.loop-at.out (map (item values) vars) (omega (arith, long, length-map vars (item values))) (λ k below.
    let within : k < length vars = omega (arith, below, long) in
    let done : k < c.loop-at.at = omega (arith, within, c.loop-at-test.false, shown) in
    c.loop-at.invariant k done ∙ ap (λ vs. item values (get_or vs k 0)) same ∙ sym (get_or-map (item values) vars k 0 (pos 0) within))
