use Rattle.std.proofs.Common.{◌≡◌, ◌∙◌, ap, sym, subst, ℕ, Ok, Result}
use Rattle.std.specs.declared.alloc.Global.{Global}
use Rattle.std.specs.declared.vec.Vec.{Vec}
use Rattle.emtp_card.specs.declared.reason.Bad.{Bad}
use Rattle.emtp_case.specs.declared.case.Parts.{Parts}
use Rattle.emtp_run.proofs.AfterReading.{some_text}
use Rattle.emtp_run.proofs.Contents.{text_at-is}
use Rattle.emtp_run.specs.Command.{answer_by, runs_by}
use Rattle.emtp_run.specs.held.Command.{HoldsOfRuns}
use Rattle.emtp_run.specs.Inputs.{text_at}
use Rattle.emtp_run.specs.held.Inputs.{texts_of}
use Rattle.emtp_run.specs.held.Outcome.{EndsAfterReading}
use Rattle.emtp_run.specs.Reading.{deck}
use Rattle.emtp_run.specs.held.Words.{task_of}
use Rattle.emtp_run.proofs.run.judge.Goals as goal

pub returns-in-Ok-clause-runs : goal.returns-in-Ok-clause-runs
returns-in-Ok-clause-runs g c =
    let texts = texts_of c.args.texts.now in
    let first : text_at 0 texts ≡ c.deref.result.now = text_at-is c.args.texts.now 0 _ (rw c.requires.count (some_text (task_of c.args.words))) ∙ ap (λ (text : Vec ℕ Global). text.items) (sym c.index-texts-0.is) ∙ sym c.deref.ensures.value in
    let cards : Ok c.in-Ok.case.parts ≡ deck (text_at 0 texts) = sym (ap deck first ∙ c.in-Ok.ensures.ok) in
    λ ran. subst (λ (read : Result Parts Bad). HoldsOfRuns (runs_by (task_of c.args.words) texts read)) cards (c.work-status.ensures.runs ran)

pub returns-in-Ok-clause-ends : goal.returns-in-Ok-clause-ends
returns-in-Ok-clause-ends g c =
    let texts = texts_of c.args.texts.now in
    let first : text_at 0 texts ≡ c.deref.result.now = text_at-is c.args.texts.now 0 _ (rw c.requires.count (some_text (task_of c.args.words))) ∙ ap (λ (text : Vec ℕ Global). text.items) (sym c.index-texts-0.is) ∙ sym c.deref.ensures.value in
    let cards : Ok c.in-Ok.case.parts ≡ deck (text_at 0 texts) = sym (ap deck first ∙ c.in-Ok.ensures.ok) in
    subst (λ (read : Result Parts Bad). EndsAfterReading c.work-status.result (answer_by (task_of c.args.words) texts read) (g.C.Cabinet.state c.args.cabinet.now) (g.C.Cabinet.state c.work-status.new.cabinet)) cards c.work-status.ensures.ends
