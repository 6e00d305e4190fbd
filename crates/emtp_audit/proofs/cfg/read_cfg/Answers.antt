use Rattle.std.proofs.Common.{◌≡◌, ◌≤◌, ◌∙◌, sym, ap, ℕ, ◌+◌, List, [], ◌++◌, length, get_or, Some, None, unsigned_abs, to_z, of_z, arith}
use mir.Syntax.{w64}
use Rattle.std.specs.Prelude.{max}
use Rattle.std.proofs.lemmas.Int.{ints}
use Rattle.emtp_fix.proofs.Wide.{through_64}
use Rattle.emtp_comtrade.specs.Record.{joined, analog_before}
use Rattle.emtp_audit.specs.Cfg.{analog_rule_at, status_rule_at, middle_rules, end_rules, rates_in, rates_on, unit_on, file_line, scale_on, analog_scales, scales_in, cfg_differs}
use Rattle.emtp_audit.specs.Dat.{scales_of}
use Rattle.emtp_audit.specs.Rules.{LineRule, audited_lines}
use Rattle.emtp_audit.specs.held.Walk.{LinesLeft, StopsAt, finds_lines}
use Rattle.emtp_audit.specs.declared.scale.Scale.{Scale}
use Rattle.emtp_audit.proofs.Answering.{on_differs}
use Rattle.emtp_audit.proofs.CfgPlaces.{scales-behind, behind-channels, cfg-start}
use Rattle.emtp_audit.proofs.Joined.{length-joined}
use Rattle.emtp_audit.proofs.cfg.read_cfg.Goals as goal
use Rattle.emtp_audit.specs.declared.limit.TheConstants.{LARGEST_UNIT}

pub returns-in-Err-clause-differs : goal.returns-in-Err-clause-differs
returns-in-Err-clause-differs c =
    let p = c.args.case.now.parts in
    let n = length p.channels in
    let analog = joined n (analog_rule_at p) in
    let status = joined n (status_rule_at p) in
    let rates = rates_in p (audited_lines c.args.bytes.now) in
    let rest : ℕ → List LineRule = λ rates. middle_rules c.args.count rates ++ end_rules in
    cfg-start p c.args.count c.args.bytes.now c.of-lines.result (Some c.in-Err.differs) c.if-bytes-gt-MOST_BYTES.false c.of-lines.ensures (c.in-Err.ensures.err (analog ++ (status ++ rest rates)))

pub returns-in-Err-read_scales-clause-differs : goal.returns-in-Err-read_scales-clause-differs
returns-in-Err-read_scales-clause-differs c =
    let p = c.args.case.now.parts in
    let n = length p.channels in
    let analog = joined n (analog_rule_at p) in
    let status = joined n (status_rule_at p) in
    let rates = rates_in p (audited_lines c.args.bytes.now) in
    let rest : ℕ → List LineRule = λ rates. middle_rules c.args.count rates ++ end_rules in
    on_differs c.in-Err-read_scales.fault (StopsAt c.walk_head.new.lines analog) (λ differs. cfg_differs p c.args.count c.args.bytes.now ≡ Some differs)
    (λ differs stop. cfg-start p c.args.count c.args.bytes.now c.of-lines.result (Some differs) c.if-bytes-gt-MOST_BYTES.false c.of-lines.ensures (c.in-Ok.ensures.ok.pass (analog ++ (status ++ rest rates)) ∙ stop (status ++ rest rates)))
    c.in-Err-read_scales.ensures.err

pub returns-in-Err-walk_statuses-clause-differs : goal.returns-in-Err-walk_statuses-clause-differs
returns-in-Err-walk_statuses-clause-differs c =
    let p = c.args.case.now.parts in
    let n = length p.channels in
    let analog = joined n (analog_rule_at p) in
    let status = joined n (status_rule_at p) in
    let rates = rates_in p (audited_lines c.args.bytes.now) in
    let rest : ℕ → List LineRule = λ rates. middle_rules c.args.count rates ++ end_rules in
    cfg-start p c.args.count c.args.bytes.now c.of-lines.result (Some c.in-Err-walk_statuses.differs) c.if-bytes-gt-MOST_BYTES.false c.of-lines.ensures
    (c.in-Ok.ensures.ok.pass (analog ++ (status ++ rest rates)) ∙ c.in-Ok-read_scales.ensures.ok.pass (status ++ rest rates) ∙ c.in-Err-walk_statuses.ensures.err (rest rates))

pub returns-in-Ok-read_end-clause-same : goal.returns-in-Ok-read_end-clause-same
returns-in-Ok-read_end-clause-same c =
    let p = c.args.case.now.parts in
    let n = length p.channels in
    let analog = joined n (analog_rule_at p) in
    let status = joined n (status_rule_at p) in
    let rates = rates_in p (audited_lines c.args.bytes.now) in
    let rest : ℕ → List LineRule = λ rates. middle_rules c.args.count rates ++ end_rules in
    let behind = behind-channels p c.of-lines.result.lines c.walk_head.new.lines.lines c.read_scales.new.lines.lines c.walk_statuses.new.lines.lines c.in-Ok.ensures.ok.behind c.in-Ok-read_scales.ensures.ok.behind c.in-Ok-walk_statuses.ensures.ok.behind in
    let told : rates ≡ rates_on (file_line c.walk_statuses.new.lines.lines 1) =
    ap (λ (ls : List (List ℕ)). rates_in p ls) (sym (ap (λ (w : LinesLeft). w.lines) c.of-lines.ensures)) ∙ ap (λ (k : ℕ). rates_on (get_or c.of-lines.result.lines k [])) (three n) ∙ ap rates_on (behind 1) in
    cfg-start p c.args.count c.args.bytes.now c.of-lines.result None c.if-bytes-gt-MOST_BYTES.false c.of-lines.ensures
    (c.in-Ok.ensures.ok.pass (analog ++ (status ++ rest rates)) ∙ c.in-Ok-read_scales.ensures.ok.pass (status ++ rest rates) ∙ c.in-Ok-walk_statuses.ensures.ok.pass (rest rates)
    ∙ ap (λ (r : ℕ). finds_lines c.walk_statuses.new.lines (rest r)) told ∙ c.in-Ok-read_end.ensures.same)
  where
    three : (n : ℕ) → n + 3 ≡ n + 2 + 1
    three n = omega arith

pub returns-in-Err-read_end-clause-differs : goal.returns-in-Err-read_end-clause-differs
returns-in-Err-read_end-clause-differs c =
    let p = c.args.case.now.parts in
    let n = length p.channels in
    let analog = joined n (analog_rule_at p) in
    let status = joined n (status_rule_at p) in
    let rates = rates_in p (audited_lines c.args.bytes.now) in
    let rest : ℕ → List LineRule = λ rates. middle_rules c.args.count rates ++ end_rules in
    let behind = behind-channels p c.of-lines.result.lines c.walk_head.new.lines.lines c.read_scales.new.lines.lines c.walk_statuses.new.lines.lines c.in-Ok.ensures.ok.behind c.in-Ok-read_scales.ensures.ok.behind c.in-Ok-walk_statuses.ensures.ok.behind in
    let told : rates ≡ rates_on (file_line c.walk_statuses.new.lines.lines 1) =
    ap (λ (ls : List (List ℕ)). rates_in p ls) (sym (ap (λ (w : LinesLeft). w.lines) c.of-lines.ensures)) ∙ ap (λ (k : ℕ). rates_on (get_or c.of-lines.result.lines k [])) (three n) ∙ ap rates_on (behind 1) in
    cfg-start p c.args.count c.args.bytes.now c.of-lines.result (Some c.in-Err-read_end.differs) c.if-bytes-gt-MOST_BYTES.false c.of-lines.ensures
    (c.in-Ok.ensures.ok.pass (analog ++ (status ++ rest rates)) ∙ c.in-Ok-read_scales.ensures.ok.pass (status ++ rest rates) ∙ c.in-Ok-walk_statuses.ensures.ok.pass (rest rates)
    ∙ ap (λ (r : ℕ). finds_lines c.walk_statuses.new.lines (rest r)) told ∙ c.in-Err-read_end.ensures.same)
  where
    three : (n : ℕ) → n + 3 ≡ n + 2 + 1
    three n = omega arith

pub returns-in-Ok-read_end-clause-says : goal.returns-in-Ok-read_end-clause-says
unfolding scales_in
returns-in-Ok-read_end-clause-says c =
    let p = c.args.case.now.parts in
    let n = length p.channels in
    let all = ap (λ (w : LinesLeft). w.lines) c.of-lines.ensures in
    let behind = behind-channels p c.of-lines.result.lines c.walk_head.new.lines.lines c.read_scales.new.lines.lines c.walk_statuses.new.lines.lines c.in-Ok.ensures.ok.behind c.in-Ok-read_scales.ensures.ok.behind c.in-Ok-walk_statuses.ensures.ok.behind in
    let told : rates_in p c.of-lines.result.lines ≡ rates_on (file_line c.walk_statuses.new.lines.lines 1) =
    ap (λ (k : ℕ). rates_on (get_or c.of-lines.result.lines k [])) (three n) ∙ ap rates_on (behind 1) in
    let small : unsigned_abs c.in-Ok-read_end.multiplier ≤ LARGEST_UNIT = omega (arith, ints, c.in-Ok-read_end.ensures.least, c.in-Ok-read_end.ensures.most) in
    let unit = through_64 c.in-Ok-read_end.multiplier (omega (arith, small)) ∙ c.in-Ok-read_end.ensures.value
    ∙ ap (λ (r : ℕ). unit_on (file_line c.walk_statuses.new.lines.lines (5 + max r 1))) (sym told)
    ∙ ap unit_on (sym (behind (5 + max (rates_in p c.of-lines.result.lines) 1)))
    ∙ ap (λ (k : ℕ). unit_on (get_or c.of-lines.result.lines k [])) (seven n (max (rates_in p c.of-lines.result.lines) 1)) in
    let scales = c.in-Ok-read_scales.ensures.scales ∙ scales-behind p c.of-lines.result.lines c.walk_head.new.lines.lines c.in-Ok.ensures.ok.behind in
    ap (λ (xs : List Scale). scales_of xs (to_z w64 (of_z w64 c.in-Ok-read_end.multiplier))) scales
    ∙ ap (scales_of (analog_scales p c.of-lines.result.lines)) unit
    ∙ ap (λ (ls : List (List ℕ)). scales_of (analog_scales p ls) (unit_on (file_line ls (n + 7 + max (rates_in p ls) 1)))) all
  where
    three : (n : ℕ) → n + 3 ≡ n + 2 + 1
    three n = omega arith

    seven : (n m : ℕ) → n + 2 + (5 + m) ≡ n + 7 + m
    seven n m = omega arith

pub returns-in-Ok-read_end-clause-count : goal.returns-in-Ok-read_end-clause-count
returns-in-Ok-read_end-clause-count c =
    ap length c.in-Ok-read_scales.ensures.scales
    ∙ length-joined (λ number. scale_on (file_line c.walk_head.new.lines.lines number)) (analog_before c.args.case.now.parts (length c.args.case.now.parts.channels))
