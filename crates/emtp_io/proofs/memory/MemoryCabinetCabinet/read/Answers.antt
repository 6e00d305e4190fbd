use Rattle.std.proofs.Common.{◌∙◌, ap, refl, sym, take, arith}
use Rattle.emtp_io.specs.held.Memory.{Memory}
use Rattle.emtp_io.proofs.FilesLemmas.{unread_of-read, unread_of-fits}
use Rattle.emtp_io.proofs.memory.MemoryCabinetCabinet.read.Goals as goal

pub returns-in-Some-clause-cause : goal.returns-in-Some-clause-cause
returns-in-Some-clause-cause c = rw (← c.self.view_is) (record { later = omega arith; ok = refl; failed = tt })

pub returns-in-Some-clause-count : goal.returns-in-Some-clause-count
returns-in-Some-clause-count c = let rest = rw c.deref-2.ensures.value at c.in-Some.ensures in rw (← c.self.view_is, ← rest, c.copy_front-count.ensures.count) refl

pub returns-in-Some-clause-bound : goal.returns-in-Some-clause-bound
returns-in-Some-clause-bound c = omega (arith, c.copy_front-count.ensures.count)

pub returns-in-Some-clause-bytes : goal.returns-in-Some-clause-bytes
returns-in-Some-clause-bytes c =
    let m = c.self.inside in
    let n = c.copy_front-count.result in
    let rest = rw c.deref-2.ensures.value at c.in-Some.ensures in
    ap (λ (s : Memory). s.unread) (sym c.self.view_is)
    ∙ unread_of-read m.files.items m.opened m.position n c.in-Some.rest.now (take n c.copy_front-count.new.to) (sym rest) c.copy_front-count.ensures.copied

pub returns-in-Some-clause-ok : goal.returns-in-Some-clause-ok
returns-in-Some-clause-ok c = rw (← c.self.view_is, c.next_fails-told.ensures.calls) refl

pub overflow_add-self : goal.overflow_add-self
overflow_add-self c =
    let m = c.self.inside in
    let left = rw c.deref-2.ensures.value at c.in-Some.ensures in
    omega (arith, unread_of-fits m.files.items m.opened m.position c.copy_front-count.result c.in-Some.rest.now (omega (arith, c.self.ranges)) (sym left) (omega (arith, c.copy_front-count.ensures.count)))
