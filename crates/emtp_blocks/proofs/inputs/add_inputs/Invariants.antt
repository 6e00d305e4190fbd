use Rattle.std.proofs.Common.{◌≡◌, ◌<◌, ◌+ℤ◌, ℕ, take, length}
use Rattle.emtp_elim.specs.Matrix.{item}
use Rattle.emtp_case.specs.Sums.{total}
use Rattle.emtp_blocks.specs.held.BlockRows.{place_in}
use Rattle.emtp_blocks.specs.System.{coupling_by}
use Rattle.emtp_blocks.proofs.inputs.add_inputs.Given as goal

abbrev pub invariant-loop-input : goal.invariant-loop-input
invariant-loop-input l = (j : ℕ) → j < length l.out → item l.out j ≡ item l.fn.out j +ℤ total (λ n. coupling_by l.gain j n (place_in l.places n.var)) (take l.input-index l.inputs)
