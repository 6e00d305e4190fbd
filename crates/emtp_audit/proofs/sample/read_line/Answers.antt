use Rattle.std.proofs.Common.{◌≡◌, ◌∙◌, sym, ap, ℕ, ℤ, pos, ◌+◌, ◌++◌, ◌∷◌, [], List, true, length, of_z, to_z, append-nil, arith}
use mir.Syntax.{w64}
use Rattle.std.proofs.lemmas.Int.{to_z-of_z}
use Rattle.emtp_fix.proofs.Wide.{through_64}
use Rattle.emtp_comtrade.specs.Record.{joined, sample_time}
use Rattle.emtp_audit.specs.Rules.{Rule, line_differs, number_is}
use Rattle.emtp_audit.specs.Dat.{stamp_is}
use Rattle.emtp_audit.specs.held.Dat.{line_rule, raw_rules, state_rules}
use Rattle.emtp_audit.specs.held.Walk.{Walked, finds}
use Rattle.emtp_audit.specs.declared.sample.Audited.{Audited}
use Rattle.emtp_audit.proofs.sample.read_line.Goals as goal
use Rattle.emtp_audit.proofs.sample.read_line.Goals.{After-of-fields, After-sample_time}

-- the rules of a sample's states, and with those of its raw values before them
abbrev states_of : Audited → ℕ → List Rule
states_of audited sample = joined (length audited.case.now.parts.channels) (state_rules audited sample)

abbrev values_of : Audited → ℕ → List Rule
values_of audited sample = joined (length audited.case.now.parts.channels) (raw_rules audited sample) ++ states_of audited sample

-- a rule of a stamp at the numbers that were passed
same_rule : (step unit first s u f : ℤ) (k : ℕ) (w : Walked) (more : List Rule) → s ≡ step → u ≡ unit → f ≡ first → finds w (stamp_is step unit first k ∷ more) ≡ finds w (stamp_is s u f k ∷ more)
same_rule step unit first s u f k w more is_s is_u is_f =
    sym (ap (λ (x : ℤ). finds w (stamp_is x u f k ∷ more)) is_s ∙ ap (λ (x : ℤ). finds w (stamp_is step x f k ∷ more)) is_u ∙ ap (λ (x : ℤ). finds w (stamp_is step unit x k ∷ more)) is_f)

-- the rules behind the number, and with its own before them
abbrev behind_number : Audited → ℤ → ℕ → List Rule
behind_number audited first sample = stamp_is (sample_time audited.case.now.parts) audited.cfg.now.multiplier first sample ∷ values_of audited sample

abbrev rules_of : Audited → ℤ → ℕ → List Rule
rules_of audited first sample = number_is (pos (sample + 1)) ∷ behind_number audited first sample

-- the line at its first field
at_number : (c : After-of-fields) → line_differs true c.args.line (line_rule c.args.audited.now c.args.first c.args.sample) c.args.text.now ≡ finds c.of-fields.result (rules_of c.args.audited.now c.args.first c.args.sample)
at_number c = ap (λ (w : Walked). finds w (rules_of c.args.audited.now c.args.first c.args.sample)) (sym c.of-fields.ensures)

-- and behind it, with the stamp's rule at the numbers that are passed
at_stamp : (c : After-sample_time) → finds c.of-fields.result (rules_of c.args.audited.now c.args.first c.args.sample)
    ≡ finds c.walk_number.new.fields (stamp_is (to_z w64 (of_z w64 c.sample_time.result)) (to_z w64 (of_z w64 c.args.audited.now.cfg.now.multiplier)) (to_z w64 (of_z w64 c.args.first)) c.args.sample ∷ values_of c.args.audited.now c.args.sample)
at_stamp c = c.in-Ok.ensures.walks (behind_number c.args.audited.now c.args.first c.args.sample)
    ∙ same_rule (sample_time c.args.audited.now.case.now.parts) c.args.audited.now.cfg.now.multiplier c.args.first _ _ _ c.args.sample c.walk_number.new.fields (values_of c.args.audited.now c.args.sample)
    (through_64 c.sample_time.result (omega (arith, c.sample_time.ensures.bound)) ∙ c.sample_time.ensures.value) (through_64 c.args.audited.now.cfg.now.multiplier c.requires.audited.multiplier) (to_z-of_z w64 c.args.first c.ranges.first)

pub returns-in-Err : goal.returns-in-Err
returns-in-Err c = let at = goal.at.returns-in-Err c in at_number at.After-of-fields ∙ c.in-Err.ensures.walks (behind_number c.args.audited.now c.args.first c.args.sample)

pub returns-in-Err-walk_stamp : goal.returns-in-Err-walk_stamp
returns-in-Err-walk_stamp c =
    let at = goal.at.returns-in-Err-walk_stamp c in
    at_number at.After-of-fields ∙ at_stamp at.After-sample_time ∙ c.in-Err-walk_stamp.ensures.walks (values_of c.args.audited.now c.args.sample)

pub returns-in-Err-walk_raws : goal.returns-in-Err-walk_raws
returns-in-Err-walk_raws c =
    let at = goal.at.returns-in-Err-walk_raws c in
    let states = states_of c.args.audited.now c.args.sample in
    at_number at.After-of-fields ∙ at_stamp at.After-sample_time ∙ c.in-Ok-walk_stamp.ensures.walks (values_of c.args.audited.now c.args.sample) ∙ c.in-Err-walk_raws.ensures.walks states

pub returns-in-Err-walk_states : goal.returns-in-Err-walk_states
returns-in-Err-walk_states c =
    let at = goal.at.returns-in-Err-walk_states c in
    let states = states_of c.args.audited.now c.args.sample in
    at_number at.After-of-fields ∙ at_stamp at.After-sample_time ∙ c.in-Ok-walk_stamp.ensures.walks (values_of c.args.audited.now c.args.sample) ∙ c.in-Ok-walk_raws.ensures.walks states
    ∙ ap (finds c.walk_raws.new.fields) (sym (append-nil states)) ∙ c.in-Err-walk_states.ensures.walks []

pub returns : goal.returns
returns c =
    let at = goal.at.returns c in
    let states = states_of c.args.audited.now c.args.sample in
    at_number at.After-of-fields ∙ at_stamp at.After-sample_time ∙ c.in-Ok-walk_stamp.ensures.walks (values_of c.args.audited.now c.args.sample) ∙ c.in-Ok-walk_raws.ensures.walks states
    ∙ ap (finds c.walk_raws.new.fields) (sym (append-nil states)) ∙ c.in-Ok-walk_states.ensures.walks [] ∙ c.finish.ensures
