use Rattle.std.proofs.Common.{subst, Option}
use Rattle.emtp_inspect.specs.Asking.{PastRun, asked, explained}
use Rattle.emtp_inspect.specs.Inspecting.{Inspects}
use Rattle.emtp_run.specs.Words.{texts}
use Rattle.emtp_inspect.proofs.showing.inspect.Goals as goal

pub returns-in-Some : goal.returns-in-Some
returns-in-Some g c = subst (λ (run : Option PastRun). Inspects run (asked (texts c.args.words.now)) (explained (texts c.args.words.now)) c.tell_after.result (g.C.Cabinet.state c.args.cabinet.now) (g.C.Cabinet.state c.tell_after.new.cabinet)) c.in-Some.ensures c.tell_after.ensures

pub returns-in-None : goal.returns-in-None
returns-in-None g c = subst (λ (run : Option PastRun). Inspects run (asked (texts c.args.words.now)) (explained (texts c.args.words.now)) c.show_or_explain.result (g.C.Cabinet.state c.args.cabinet.now) (g.C.Cabinet.state c.show_or_explain.new.cabinet)) c.in-None.ensures c.show_or_explain.ensures
