use Rattle.std.proofs.Common.{[], ◌∷◌, codes}
use Rattle.emtp_audit.specs.Cfg.{head_rules, numbers_rule}
use Rattle.emtp_audit.specs.Rules.{Fields, any_field, text_is}
use Rattle.emtp_audit.specs.held.Walk.{Passes, StopsAt}
use Rattle.emtp_audit.proofs.Answering.{on_ok, if_err}
use Rattle.emtp_audit.proofs.LineWalks.{passes-both, stops-later, stops-more}
use Rattle.emtp_audit.proofs.cfg.walk_head.Goals as goal

pub returns-in-Ok-clause-ok : goal.returns-in-Ok-clause-ok
returns-in-Ok-clause-ok c =
    on_ok c.walk_numbers.result _ (Passes c.args.lines.now c.walk_numbers.new.lines (head_rules c.args.case.now.parts))
    (λ last. passes-both c.args.lines.now c.walk_line.new.lines c.walk_numbers.new.lines (Fields (any_field ∷ any_field ∷ text_is (codes "1999") ∷ []) ∷ []) (numbers_rule c.args.case.now.parts ∷ []) c.in-Ok.ensures.ok last)
    c.walk_numbers.ensures.ok

pub returns-in-Ok-clause-err : goal.returns-in-Ok-clause-err
returns-in-Ok-clause-err c =
    if_err c.walk_numbers.result _ (StopsAt c.args.lines.now (head_rules c.args.case.now.parts))
    (λ differs stop. stops-later c.args.lines.now c.walk_line.new.lines (Fields (any_field ∷ any_field ∷ text_is (codes "1999") ∷ []) ∷ []) (numbers_rule c.args.case.now.parts ∷ []) differs c.in-Ok.ensures.ok stop)
    c.walk_numbers.ensures.err

pub returns-in-Err-clause-err : goal.returns-in-Err-clause-err
returns-in-Err-clause-err c =
    stops-more c.args.lines.now (Fields (any_field ∷ any_field ∷ text_is (codes "1999") ∷ []) ∷ []) (numbers_rule c.args.case.now.parts ∷ []) c.in-Err.differs c.in-Err.ensures.err
