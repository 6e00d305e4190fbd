use Rattle.std.proofs.Common.{[], ◌∷◌}
use Rattle.emtp_audit.specs.Cfg.{type_rule, date_rules}
use Rattle.emtp_audit.specs.Rules.{Anything}
use Rattle.emtp_audit.specs.held.Walk.{Passes, StopsAt}
use Rattle.emtp_audit.proofs.Answering.{on_ok, if_err}
use Rattle.emtp_audit.proofs.LineWalks.{passes-both, stops-later, stops-more}
use Rattle.emtp_audit.proofs.cfg.walk_dates.Goals as goal

pub returns-in-Err-clause-err : goal.returns-in-Err-clause-err
returns-in-Err-clause-err c = stops-more c.args.lines.now (Anything ∷ []) (Anything ∷ type_rule ∷ []) c.in-Err.differs c.in-Err.ensures.err

pub returns-in-Err-walk_any-clause-err : goal.returns-in-Err-walk_any-clause-err
returns-in-Err-walk_any-clause-err c =
    stops-later c.args.lines.now c.walk_any.new.lines (Anything ∷ []) (Anything ∷ type_rule ∷ []) c.in-Err-walk_any.differs c.in-Ok.ensures.ok
    (stops-more c.walk_any.new.lines (Anything ∷ []) (type_rule ∷ []) c.in-Err-walk_any.differs c.in-Err-walk_any.ensures.err)

pub returns-clause-ok : goal.returns-clause-ok
returns-clause-ok c =
    on_ok c.walk_line.result _ (Passes c.args.lines.now c.walk_line.new.lines date_rules)
    (λ last. passes-both c.args.lines.now c.walk_any.new.lines c.walk_line.new.lines (Anything ∷ []) (Anything ∷ type_rule ∷ []) c.in-Ok.ensures.ok
    (passes-both c.walk_any.new.lines c.walk_any-2.new.lines c.walk_line.new.lines (Anything ∷ []) (type_rule ∷ []) c.in-Ok-walk_any.ensures.ok last))
    c.walk_line.ensures.ok

pub returns-clause-err : goal.returns-clause-err
returns-clause-err c =
    if_err c.walk_line.result _ (StopsAt c.args.lines.now date_rules)
    (λ differs stop. stops-later c.args.lines.now c.walk_any.new.lines (Anything ∷ []) (Anything ∷ type_rule ∷ []) differs c.in-Ok.ensures.ok
    (stops-later c.walk_any.new.lines c.walk_any-2.new.lines (Anything ∷ []) (type_rule ∷ []) differs c.in-Ok-walk_any.ensures.ok stop))
    c.walk_line.ensures.err
