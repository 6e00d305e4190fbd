use Rattle.std.proofs.Common.{◌∙◌, sym, ap, ℤ, pos, Option, unwrap_or, arith}
use Rattle.emtp_fix.proofs.Wide.{through_64}
use Rattle.emtp_audit.specs.held.Walk.{Walked}
use Rattle.emtp_audit.proofs.Reading.{stamp-none, stamp-one, stamp-two}
use Rattle.emtp_audit.proofs.dat.stamp_in.Goals as goal

pub returns-in-Err-clause-value : goal.returns-in-Err-clause-value
returns-in-Err-clause-value c =
    let fields = ap (λ (w : Walked). w.fields) c.of-fields.ensures in
    sym (stamp-none c.args.line.now (sym fields ∙ c.in-Err.ensures.err.0))

pub returns-in-Err-take-clause-value : goal.returns-in-Err-take-clause-value
returns-in-Err-take-clause-value c =
    let fields = ap (λ (w : Walked). w.fields) c.of-fields.ensures in
    sym (stamp-one c.args.line.now c.in-Ok.field-0.now c.take.new.self.fields (sym fields ∙ c.in-Ok.ensures.ok.0) c.in-Err-take.ensures.err.0)

pub returns-in-None-clause-value : goal.returns-in-None-clause-value
returns-in-None-clause-value c =
    let fields = ap (λ (w : Walked). w.fields) c.of-fields.ensures in
    sym (stamp-two c.args.line.now c.in-Ok.field-0.now c.in-Ok-take.field.now c.take.new.self.fields c.take-in-Ok.new.self.fields (sym fields ∙ c.in-Ok.ensures.ok.0) c.in-Ok-take.ensures.ok.0
    ∙ ap (λ (o : Option ℤ). unwrap_or o (pos 0)) (sym c.in-None.ensures.value))

pub returns-in-Some-clause-value : goal.returns-in-Some-clause-value
returns-in-Some-clause-value c =
    let fields = ap (λ (w : Walked). w.fields) c.of-fields.ensures in
    through_64 c.in-Some.stamp (omega (arith, c.in-Some.ensures.small))
    ∙ sym (stamp-two c.args.line.now c.in-Ok.field-0.now c.in-Ok-take.field.now c.take.new.self.fields c.take-in-Ok.new.self.fields (sym fields ∙ c.in-Ok.ensures.ok.0) c.in-Ok-take.ensures.ok.0
    ∙ ap (λ (o : Option ℤ). unwrap_or o (pos 0)) (sym c.in-Some.ensures.value))
