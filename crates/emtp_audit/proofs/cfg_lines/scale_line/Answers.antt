use Rattle.std.proofs.Common.{◌∙◌, sym, ap, List, [], ◌∷◌, ◌++◌}
use Rattle.std.specs.Prelude.{replicate}
use Rattle.emtp_audit.specs.Cfg.{identity_rules, scale_rule}
use Rattle.emtp_audit.specs.Rules.{Rule, any_field}
use Rattle.emtp_audit.specs.held.Walk.{Walked, finds}
use Rattle.emtp_audit.proofs.FieldNumbers.{scale_on-behind}
use Rattle.emtp_audit.proofs.cfg_lines.scale_line.Goals as goal

pub returns-in-Err-clause-same : goal.returns-in-Err-clause-same
returns-in-Err-clause-same c =
    let ids = identity_rules c.args.number c.args.name.now c.args.unit.now in
    let numbers : List Rule = scale_rule ∷ scale_rule ∷ [] in
    let others : List Rule = replicate 6 any_field in
    let start = ap (λ (w : Walked). finds w (ids ++ (numbers ++ others))) (sym c.of-fields.ensures) in
    start ∙ c.in-Err.ensures.walks (numbers ++ others)

pub returns-in-Err-read_scale_numbers-clause-same : goal.returns-in-Err-read_scale_numbers-clause-same
returns-in-Err-read_scale_numbers-clause-same c =
    let ids = identity_rules c.args.number c.args.name.now c.args.unit.now in
    let numbers : List Rule = scale_rule ∷ scale_rule ∷ [] in
    let others : List Rule = replicate 6 any_field in
    let start = ap (λ (w : Walked). finds w (ids ++ (numbers ++ others))) (sym c.of-fields.ensures) in
    start ∙ c.in-Ok.ensures.walks (numbers ++ others) ∙ c.in-Err-read_scale_numbers.ensures.walks others

pub returns-in-Err-walk_checks-clause-same : goal.returns-in-Err-walk_checks-clause-same
returns-in-Err-walk_checks-clause-same c =
    let ids = identity_rules c.args.number c.args.name.now c.args.unit.now in
    let numbers : List Rule = scale_rule ∷ scale_rule ∷ [] in
    let others : List Rule = replicate 6 any_field in
    let start = ap (λ (w : Walked). finds w (ids ++ (numbers ++ others))) (sym c.of-fields.ensures) in
    start ∙ c.in-Ok.ensures.walks (numbers ++ others) ∙ c.in-Ok-read_scale_numbers.ensures.walks others ∙ c.in-Err-walk_checks.ensures.walks []

pub returns-in-Ok-finish-clause-same : goal.returns-in-Ok-finish-clause-same
returns-in-Ok-finish-clause-same c =
    let ids = identity_rules c.args.number c.args.name.now c.args.unit.now in
    let numbers : List Rule = scale_rule ∷ scale_rule ∷ [] in
    let others : List Rule = replicate 6 any_field in
    let start = ap (λ (w : Walked). finds w (ids ++ (numbers ++ others))) (sym c.of-fields.ensures) in
    start ∙ c.in-Ok.ensures.walks (numbers ++ others) ∙ c.in-Ok-read_scale_numbers.ensures.walks others ∙ c.in-Ok-walk_checks.ensures.walks [] ∙ c.in-Ok-finish.ensures

pub returns-in-Err-finish-clause-same : goal.returns-in-Err-finish-clause-same
returns-in-Err-finish-clause-same c =
    let ids = identity_rules c.args.number c.args.name.now c.args.unit.now in
    let numbers : List Rule = scale_rule ∷ scale_rule ∷ [] in
    let others : List Rule = replicate 6 any_field in
    let start = ap (λ (w : Walked). finds w (ids ++ (numbers ++ others))) (sym c.of-fields.ensures) in
    start ∙ c.in-Ok.ensures.walks (numbers ++ others) ∙ c.in-Ok-read_scale_numbers.ensures.walks others ∙ c.in-Ok-walk_checks.ensures.walks [] ∙ c.in-Err-finish.ensures

pub returns-in-Ok-finish-clause-value : goal.returns-in-Ok-finish-clause-value
returns-in-Ok-finish-clause-value c =
    scale_on-behind c.args.text.now c.of-fields.result.fields c.walk_identity.new.fields.fields c.in-Ok-read_scale_numbers.scale
    (ap (λ (w : Walked). w.fields) c.of-fields.ensures) c.in-Ok.ensures.behind c.in-Ok-read_scale_numbers.ensures.a c.in-Ok-read_scale_numbers.ensures.b
