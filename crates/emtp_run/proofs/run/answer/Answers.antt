use Rattle.std.proofs.Common.{◌∙◌, ap, sym, ℕ, List, Some}
use Rattle.std.specs.declared.alloc.Global.{Global}
use Rattle.std.specs.declared.vec.Vec.{Vec}
use Rattle.emtp_run.proofs.AfterReading.{answered, failed, wanting}
use Rattle.emtp_run.specs.held.Inputs.{texts_of}
use Rattle.emtp_run.specs.held.Words.{task_of}
use Rattle.emtp_run.proofs.run.answer.Goals as goal

pub returns-in-Ok-clause-answers : goal.returns-in-Ok-clause-answers
returns-in-Ok-clause-answers g c =
    answered (task_of c.args.words) c.judge.result (texts_of c.deref.result.now)
    (g.C.Cabinet.state c.args.cabinet.now) (g.C.Cabinet.state c.read_texts.new.cabinet) (g.C.Cabinet.state c.judge.new.cabinet) c.in-Ok.texts
    c.in-Ok.ensures.reading c.in-Ok.ensures.unopened
    (λ tells. c.in-Ok.ensures.texts tells ∙ ap (λ (texts : List (Vec ℕ Global)). Some (texts_of texts)) (sym c.deref.ensures.value))
    c.judge.ensures.runs c.judge.ensures.ends

pub returns-in-Err-Failed-clause-answers : goal.returns-in-Err-Failed-clause-answers
returns-in-Err-Failed-clause-answers g c =
    failed (task_of c.args.words) (g.C.Cabinet.state c.args.cabinet.now) (g.C.Cabinet.state c.read_texts.new.cabinet)
    (rw c.in-Err-Failed.field-0-is at c.in-Err-Failed.ensures.reading) (rw c.in-Err-Failed.field-0-is at c.in-Err-Failed.ensures.unopened)

pub returns-in-Err-NoMemory-clause-answers : goal.returns-in-Err-NoMemory-clause-answers
returns-in-Err-NoMemory-clause-answers g c =
    wanting (task_of c.args.words) (g.C.Cabinet.state c.args.cabinet.now) (g.C.Cabinet.state c.read_texts.new.cabinet)
    (rw c.in-Err-NoMemory.field-0-is at c.in-Err-NoMemory.ensures.reading) (rw c.in-Err-NoMemory.field-0-is at c.in-Err-NoMemory.ensures.unopened)
