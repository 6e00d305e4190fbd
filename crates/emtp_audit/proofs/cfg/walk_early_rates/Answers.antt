use Rattle.std.proofs.Common.{[], ◌∷◌, ◌-◌, arith}
use Rattle.emtp_audit.specs.Cfg.{rate_rule}
use Rattle.emtp_audit.proofs.LineWalks.{passes-next, stops-joined}
use Rattle.emtp_audit.proofs.cfg.walk_early_rates.Goals as goal

pub loop-rate-preserved : goal.loop-rate-preserved
loop-rate-preserved c = passes-next c.args.lines.now c.loop-rate.lines c.walk_line.new.lines (λ rate. rate_rule ∷ []) c.loop-rate._rate c.loop-rate.invariant c.in-Ok.ensures.ok

pub returns-in-Err-clause-err : goal.returns-in-Err-clause-err
returns-in-Err-clause-err c =
    stops-joined c.args.lines.now c.loop-rate.lines (λ rate. rate_rule ∷ []) c.loop-rate._rate (c.args.rates - 1) c.in-Err.differs (omega (arith, c.loop-rate-test.true, c.saturating_sub-early.ensures)) c.loop-rate.invariant c.in-Err.ensures.err
