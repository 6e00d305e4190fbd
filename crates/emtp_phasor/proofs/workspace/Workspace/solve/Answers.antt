use Rattle.std.proofs.Common.{◌≡◌, ◌∙◌, drop, sym, ap, length, List, ℤ, Result, Ok, arith}
use Rattle.std.proofs.lemmas.List.{take_at}
use Rattle.std.proofs.lemmas.Result.{IfErr-weaker, on_ok_weaker}
use Rattle.emtp_elim.specs.declared.fault.PlainFault.{PlainFault}
use Rattle.emtp_phasor.specs.Doubled.{doubled_matrix}
use Rattle.emtp_phasor.specs.held.SteadyNetwork.{doubled_of}
use Rattle.emtp_phasor.proofs.Doubling.{length-doubled_matrix}
use Rattle.emtp_phasor.proofs.workspace.Workspace.solve.Goals as goal

pub solve_right-requires-clause-all : goal.solve_right-requires-clause-all
solve_right-requires-clause-all g c =
    let s = doubled_of c.args.network in
    let all : length c.eliminate_rows.new.done.rows ≡ length (doubled_matrix s) = c.in-Ok.ensures.finished.all in
    omega (arith, all, length-doubled_matrix s, c.eliminate_rows.ensures.size, c.requires.workspace.done_size)

pub returns-in-Ok-clause-solved : goal.returns-in-Ok-clause-solved
returns-in-Ok-clause-solved g c =
    let x = take_at c.solve_right.new.x (drop (length c.solve_right.new.x) c.args.self.now.x.items) c.args.self.now.x.len (omega (arith, c.solve_right.auto.x, c.deref_mut-in-Ok.ensures.len)) in
    let Right : List ℤ → Result (List ℤ) PlainFault = λ xs. Ok xs in
    on_ok_weaker c.solve_right.result
    (λ solves. solves (doubled_matrix (doubled_of c.args.network)) c.in-Ok.ensures.finished ∙ ap Right (sym x))
    c.solve_right.ensures.solved

pub returns-in-Ok-clause-fault : goal.returns-in-Ok-clause-fault
returns-in-Ok-clause-fault g c =
    IfErr-weaker c.solve_right.result _ _
    (λ e faults. faults (doubled_matrix (doubled_of c.args.network)) c.in-Ok.ensures.finished)
    c.solve_right.ensures.fault

pub returns-in-Err-clause-fault : goal.returns-in-Err-clause-fault
returns-in-Err-clause-fault g c = c.in-Err.ensures.fault c.args.right.now
