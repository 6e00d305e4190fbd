use Rattle.std.proofs.Common.{◌≡◌, ◌∙◌, sym, ap, ℕ, ◌∷◌, ◌++◌, List}
use Rattle.emtp_audit.specs.Cfg.{rates_rule, rate_rules, end_rules, file_line, rates_on}
use Rattle.emtp_audit.specs.Rules.{LineRule}
use Rattle.emtp_audit.specs.held.Walk.{finds_lines}
use Rattle.emtp_audit.proofs.cfg.read_end.Goals as goal

pub returns-in-Err-clause-same : goal.returns-in-Err-clause-same
returns-in-Err-clause-same c =
    let rates = rates_on (file_line c.args.lines.lines 1) in
    c.in-Err.ensures.err (rates_rule ∷ (rate_rules rates c.args.count ++ end_rules))

pub returns-in-Err-read_rates-clause-same : goal.returns-in-Err-read_rates-clause-same
returns-in-Err-read_rates-clause-same c =
    let rates = rates_on (file_line c.args.lines.lines 1) in
    c.in-Ok.ensures.ok.pass (rates_rule ∷ (rate_rules rates c.args.count ++ end_rules)) ∙ c.in-Err-read_rates.ensures.err (rate_rules rates c.args.count ++ end_rules)

pub returns-in-Ok-read_rates-clause-same : goal.returns-in-Ok-read_rates-clause-same
returns-in-Ok-read_rates-clause-same c =
    let rates = rates_on (file_line c.args.lines.lines 1) in
    let rest : ℕ → List LineRule = λ rates. rate_rules rates c.args.count ++ end_rules in
    let same : rates ≡ c.in-Ok-read_rates.rates = ap rates_on (c.in-Ok.ensures.ok.behind 0) ∙ sym c.in-Ok-read_rates.ensures.value in
    c.in-Ok.ensures.ok.pass (rates_rule ∷ rest rates) ∙ c.in-Ok-read_rates.ensures.ok.pass (rest rates)
    ∙ ap (λ (r : ℕ). finds_lines c.read_rates.new.lines (rest r)) same ∙ c.read_times.ensures.same
