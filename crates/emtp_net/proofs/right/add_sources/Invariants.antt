use Rattle.std.proofs.Common.{◌≡◌, ◌<◌, ◌≤◌, ◌+◌, ◌*◌, ◌^◌, ◌+ℤ◌, ℕ, ℤ, length, map, take, unsigned_abs}
use Rattle.emtp_case.specs.declared.source.Source.{Source}
use Rattle.emtp_elim.specs.Matrix.{item}
use Rattle.emtp_net.specs.held.Rights.{brought}
use Rattle.emtp_rows.specs.Nodal.{node_at}
use Rattle.emtp_net.proofs.right.add_sources.Given as goal

abbrev pub invariant-loop-at : goal.invariant-loop-at
invariant-loop-at l = record {
  value : (f : Source → ℤ) → l.values ≡ map f l.case.parts.sources → (j : ℕ) → j < length l.out → item l.out j ≡ item l.fn.out j +ℤ brought f (node_at l.case.parts j) (take l.at l.case.parts.sources);
  bound : (j : ℕ) → j < length l.out → unsigned_abs (item l.out j) ≤ unsigned_abs (item l.fn.out j) + l.at * 10 ^ 19;
}
