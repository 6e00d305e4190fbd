use Rattle.std.proofs.Common.{◌≤◌, ◌∙◌, sym, ap, [], ◌∷◌, Some, Err, arith, unsigned_abs, ℤ, to_z, of_z}
use mir.Syntax.{w64}
use Rattle.std.proofs.lemmas.Int.{ints}
use Rattle.emtp_fix.proofs.Wide.{through, through_64}
use Rattle.emtp_audit.specs.Cfg.{is_read, unit_number}
use Rattle.emtp_audit.specs.Rules.{Rule}
use Rattle.emtp_audit.specs.held.Walk.{Walked, finds}
use Rattle.emtp_audit.specs.declared.differs.DifferCause.TheVariants.{NotNumber}
use Rattle.emtp_audit.proofs.FieldNumbers.{unit_on-first}
use Rattle.emtp_audit.proofs.Walking.{walks-one}
use Rattle.emtp_audit.proofs.cfg_lines.unit_line.Goals as goal
use Rattle.emtp_audit.specs.declared.limit.TheConstants.{LARGEST_UNIT}

pub returns-in-None-clause-same : goal.returns-in-None-clause-same
returns-in-None-clause-same c =
    let rule : Rule = λ field. is_read (unit_number field) in
    ap (λ (w : Walked). finds w (rule ∷ [])) (sym c.of-fields.ensures)
    ∙ walks-one c.of-fields.result c.take.new.self c.in-Ok.field.now rule (Some NotNumber) (Err c.differs.result) c.in-Ok.ensures.ok (ap is_read c.in-None.ensures.value) c.differs.ensures []

pub returns-in-Ok-finish-clause-value : goal.returns-in-Ok-finish-clause-value
returns-in-Ok-finish-clause-value c =
    let fields = ap (λ (w : Walked). w.fields) c.of-fields.ensures in
    let small : unsigned_abs c.in-Some.unit ≤ LARGEST_UNIT = omega (arith, ints, c.in-Some.ensures.least, c.in-Some.ensures.most) in
    ap (λ (z : ℤ). to_z w64 (of_z w64 z)) (through c.in-Some.unit (omega (arith, small))) ∙ through_64 c.in-Some.unit (omega (arith, small)) ∙
    unit_on-first c.args.text.now c.in-Ok.field.now c.take.new.self.fields c.of-fields.result.fields c.in-Some.unit fields c.in-Ok.ensures.ok.0 c.in-Some.ensures.value
