use Rattle.std.proofs.Common.{◌≡◌, ◌<◌, ◌≤◌, ◌-◌, length, true, vec_len, IsSome}
use Rattle.emtp_io.specs.Cabinet.{put_back}
use Rattle.emtp_io.proofs.whole.read_all.Given as goal

abbrev pub invariant-chunks : goal.invariant-chunks
invariant-chunks g l =
    let old = g.C.Cabinet.state l.initial.cabinet in
    let now = g.C.Cabinet.state l.cabinet in
    record {
      within : length l.bytes.items ≤ l.bound;
      nature : now.nature ≡ old.nature;
      faults_in : now.faults_in ≡ old.faults_in;
      faults_out : now.faults_out ≡ old.faults_out;
      opens : now.opens ≡ old.opens;
      creates : now.creates ≡ old.creates;
      turns : now.turns ≡ old.turns;
      outputs : now.outputs ≡ old.outputs;
      taken : old.nature.tells ≡ true → old.unread ≡ put_back l.bytes.items now.unread;
      opened : old.nature.tells ≡ true → 0 < length l.bytes.items → IsSome old.unread;
    }

abbrev pub decreases-chunks : goal.decreases-chunks
decreases-chunks g l = l.bound - vec_len l.bytes
