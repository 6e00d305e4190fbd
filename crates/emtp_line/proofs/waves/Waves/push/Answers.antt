use Rattle.std.proofs.Common.{◌∙◌, ap, ◌∷◌, ℤ, FitsSigned, rules}
use mir.Syntax.{w64, w128}
use Rattle.std.proofs.lemmas.Int.{to_z-of_z}
use Rattle.emtp_hist.specs.held.History.{Remembers}
use Rattle.emtp_line.proofs.waves.Waves.push.Goals as goal

pub returns-clause-stands : goal.returns-clause-stands
returns-clause-stands c = λ from to stands.
    let f : FitsSigned w64 c.args.from = c.ranges.from in
    let g : FitsSigned w64 c.args.to = c.ranges.to in
    let from' : Remembers c.push.new.self (c.args.from ∷ from) = simp to_z-of_z at c.push.ensures.pushes from stands.from_waves in
    let to' : Remembers c.push-2.new.self (c.args.to ∷ to) = simp to_z-of_z at c.push-2.ensures.pushes to stands.to_waves in
    let made = c.histories-from_history.ensures.value (c.args.from ∷ from) (c.args.to ∷ to) from' to' in
    let a : FitsSigned w128 c.histories-from_history.result.0 = search rules in
    let b : FitsSigned w128 c.histories-from_history.result.1 = search rules in
    record {
      from_waves = from';
      to_waves = to';
      from_history = to_z-of_z w128 c.histories-from_history.result.0 a ∙ ap (λ (h : ℤ × ℤ). h.0) made;
      to_history = to_z-of_z w128 c.histories-from_history.result.1 b ∙ ap (λ (h : ℤ × ℤ). h.1) made;
    }
