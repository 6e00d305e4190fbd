use Rattle.std.proofs.Common.{◌∙◌, sym, ap, [], map, append-nil}
use Rattle.emtp_audit.specs.held.Check.{rule_of}
use Rattle.emtp_audit.specs.held.Walk.{Walked, finds}
use Rattle.emtp_audit.proofs.check.judge_line.Goals as goal

pub returns-in-Ok : goal.returns-in-Ok
returns-in-Ok c =
    let rules = map rule_of c.args.checks.now in
    ap (λ (w : Walked). finds w rules) (sym c.of-fields.ensures)
    ∙ ap (finds c.of-fields.result) (sym (append-nil rules)) ∙ c.in-Ok.ensures.walks [] ∙ c.finish.ensures

pub returns-in-Err : goal.returns-in-Err
returns-in-Err c =
    let rules = map rule_of c.args.checks.now in
    ap (λ (w : Walked). finds w rules) (sym c.of-fields.ensures)
    ∙ ap (finds c.of-fields.result) (sym (append-nil rules)) ∙ c.in-Err.ensures.walks []
