use Rattle.std.proofs.Common.{◌≡◌, ◌≢◌, ◌≤◌, ◌-◌, length, take, true, IsSome}
use Rattle.emtp_io.specs.Cabinet.{output, turn, appended}
use Rattle.emtp_io.specs.declared.cabinet.Output.{Output}
use Rattle.emtp_io.proofs.whole.write_all.Given as goal

abbrev pub invariant-pieces : goal.invariant-pieces
invariant-pieces g l =
    let old = g.C.Cabinet.state l.initial.cabinet in
    let now = g.C.Cabinet.state l.cabinet in
    record {
      within : l.done ≤ length l.bytes;
      nature : now.nature ≡ old.nature;
      unread : now.unread ≡ old.unread;
      faults_in : now.faults_in ≡ old.faults_in;
      faults_out : now.faults_out ≡ old.faults_out;
      others : (other : Output) → other ≢ l.out → output now.outputs other ≡ output old.outputs other;
      stays : (other : Output) → IsSome (output old.outputs other) → IsSome (output now.outputs other);
      opens : now.opens ≡ old.opens;
      creates : now.creates ≡ old.creates;
      turns : now.turns ≡ old.turns;
      turned : (other : Output) → other ≢ l.out → turn now.turns other ≡ turn old.turns other;
      written : old.nature.tells ≡ true → now.outputs ≡ appended old.outputs l.out (take l.done l.bytes);
    }

abbrev pub decreases-pieces : goal.decreases-pieces
decreases-pieces g l = length l.bytes - l.done
