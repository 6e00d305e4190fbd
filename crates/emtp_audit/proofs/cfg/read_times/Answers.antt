use Rattle.std.proofs.Common.{◌≤◌, ◌∙◌, sym, ap, [], ◌∷◌, unsigned_abs, arith}
use Rattle.std.proofs.lemmas.Int.{ints}
use Rattle.emtp_fix.proofs.Wide.{through_64}
use Rattle.emtp_audit.specs.Cfg.{unit_rule, end_rules, unit_on}
use Rattle.emtp_audit.proofs.CfgPlaces.{behind-rates}
use Rattle.emtp_audit.proofs.cfg.read_times.Goals as goal
use Rattle.emtp_audit.specs.declared.limit.TheConstants.{LARGEST_UNIT}

pub returns-in-Err-walk_dates-clause-same : goal.returns-in-Err-walk_dates-clause-same
returns-in-Err-walk_dates-clause-same c = c.in-Ok.ensures.ok.pass end_rules ∙ c.in-Err-walk_dates.ensures.err (unit_rule ∷ [])

pub returns-in-Err-read_unit-clause-same : goal.returns-in-Err-read_unit-clause-same
returns-in-Err-read_unit-clause-same c = c.in-Ok.ensures.ok.pass end_rules ∙ c.in-Ok-walk_dates.ensures.ok.pass (unit_rule ∷ []) ∙ c.in-Err-read_unit.ensures.err []

pub returns-in-Ok-finish-clause-same : goal.returns-in-Ok-finish-clause-same
returns-in-Ok-finish-clause-same c =
    c.in-Ok.ensures.ok.pass end_rules ∙ c.in-Ok-walk_dates.ensures.ok.pass (unit_rule ∷ []) ∙ c.in-Ok-read_unit.ensures.ok.pass [] ∙ c.in-Ok-finish.ensures

pub returns-in-Err-finish-clause-same : goal.returns-in-Err-finish-clause-same
returns-in-Err-finish-clause-same c =
    c.in-Ok.ensures.ok.pass end_rules ∙ c.in-Ok-walk_dates.ensures.ok.pass (unit_rule ∷ []) ∙ c.in-Ok-read_unit.ensures.ok.pass [] ∙ c.in-Err-finish.ensures

pub returns-in-Ok-finish-clause-value : goal.returns-in-Ok-finish-clause-value
returns-in-Ok-finish-clause-value c =
    let small : unsigned_abs c.in-Ok-read_unit.unit ≤ LARGEST_UNIT = omega (arith, ints, c.in-Ok-read_unit.ensures.least, c.in-Ok-read_unit.ensures.most) in
    through_64 c.in-Ok-read_unit.unit (omega (arith, small)) ∙ c.in-Ok-read_unit.ensures.value
    ∙ ap unit_on (sym (behind-rates c.args.rates c.args.count c.args.lines.lines c.walk_rates.new.lines.lines c.walk_dates.new.lines.lines c.in-Ok.ensures.ok.behind c.in-Ok-walk_dates.ensures.ok.behind))
