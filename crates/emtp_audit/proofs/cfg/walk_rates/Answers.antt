use Rattle.std.proofs.Common.{◌-◌, [], ◌∷◌, List, pos}
use Rattle.emtp_comtrade.specs.Record.{joined}
use Rattle.emtp_audit.specs.Cfg.{rate_rule, rate_rules}
use Rattle.emtp_audit.specs.Rules.{LineRule, Fields, any_field, number_is}
use Rattle.emtp_audit.specs.held.Walk.{Passes, StopsAt}
use Rattle.emtp_audit.proofs.Answering.{on_ok, if_err}
use Rattle.emtp_audit.proofs.LineWalks.{passes-both, stops-later, stops-more}
use Rattle.emtp_audit.proofs.cfg.walk_rates.Goals as goal

pub returns-in-Ok-clause-ok : goal.returns-in-Ok-clause-ok
returns-in-Ok-clause-ok c =
    let last : List LineRule = Fields (any_field ∷ number_is (pos c.args.count) ∷ []) ∷ [] in
    on_ok c.walk_line.result _ (Passes c.args.lines.now c.walk_line.new.lines (rate_rules c.args.rates c.args.count))
    (λ here. passes-both c.args.lines.now c.walk_early_rates.new.lines c.walk_line.new.lines (joined (c.args.rates - 1) (λ rate. rate_rule ∷ [])) last c.in-Ok.ensures.ok here)
    c.walk_line.ensures.ok

pub returns-in-Ok-clause-err : goal.returns-in-Ok-clause-err
returns-in-Ok-clause-err c =
    let last : List LineRule = Fields (any_field ∷ number_is (pos c.args.count) ∷ []) ∷ [] in
    if_err c.walk_line.result _ (StopsAt c.args.lines.now (rate_rules c.args.rates c.args.count))
    (λ differs stop. stops-later c.args.lines.now c.walk_early_rates.new.lines (joined (c.args.rates - 1) (λ rate. rate_rule ∷ [])) last differs c.in-Ok.ensures.ok stop)
    c.walk_line.ensures.err

pub returns-in-Err-clause-err : goal.returns-in-Err-clause-err
returns-in-Err-clause-err c =
    let last : List LineRule = Fields (any_field ∷ number_is (pos c.args.count) ∷ []) ∷ [] in
    stops-more c.args.lines.now (joined (c.args.rates - 1) (λ rate. rate_rule ∷ [])) last c.in-Err.differs c.in-Err.ensures.err
