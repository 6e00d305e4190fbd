-- A run goes on by one call.
use Rattle.std.proofs.Common.{ℕ, List, [], ◌∷◌, ◌++◌, refl}
use Rattle.emtp_elim.specs.Matrix.{Matrix}
use Rattle.emtp_tail.specs.held.Good.{Good}
use Rattle.emtp_tail.specs.Runs.{Step, Run}
use Rattle.emtp_tail.specs.declared.runs.Call.{Call}
use Rattle.emtp_tail.specs.declared.runs.Reply.{Reply}

pub run_more : {R : Type 0} (matrix : R → Matrix) (old mid new : Good) (before ticks after : ℕ) (calls : List (Call R)) (replies : List Reply) (call : Call R) (reply : Reply)
    → Run matrix old before calls replies mid ticks → Step matrix mid ticks call reply new after → Run matrix old before (calls ++ call ∷ []) (replies ++ reply ∷ []) new after
run_more matrix old mid new before ticks after [] [] call reply run step = (new, after, rw (run.0, run.1) at step, (refl, refl))
run_more matrix old mid new before ticks after [] (r ∷ replies) call reply run step = absurd run
run_more matrix old mid new before ticks after (c ∷ calls) [] call reply run step = absurd run
run_more matrix old mid new before ticks after (c ∷ calls) (r ∷ replies) call reply run step =
    (run.0, run.1, run.2, run_more matrix run.0 mid new run.1 ticks after calls replies call reply run.3 step)
