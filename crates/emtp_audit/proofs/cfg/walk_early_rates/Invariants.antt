use Rattle.std.proofs.Common.{◌∷◌, []}
use Rattle.emtp_comtrade.specs.Record.{joined}
use Rattle.emtp_audit.specs.Cfg.{rate_rule}
use Rattle.emtp_audit.specs.held.Walk.{Passes}
use Rattle.emtp_audit.proofs.cfg.walk_early_rates.Given as goal

abbrev pub invariant-loop-rate : goal.invariant-loop-rate
invariant-loop-rate l = Passes l.fn.lines l.lines (joined l._rate (λ rate. rate_rule ∷ []))
