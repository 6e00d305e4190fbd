-- Records of steps, newest first.
use Rattle.emtp_case.specs.StepRecord.{StepRecord, before_start, latest, record_back}
use Rattle.std.proofs.lemmas.List.{get_or_past}
use Rattle.std.specs.Prelude.{◌≡◌, ◌≤◌, ◌∷◌, List, length, refl, suc, ℕ}

-- the last record is the one before a record that follows it
pub one_back : (r : StepRecord) (H : List StepRecord) → record_back (r ∷ H) 1 ≡ latest H
one_back r H = refl

pub one_more_back : (r : StepRecord) (H : List StepRecord) (k : ℕ) → record_back (r ∷ H) (suc k) ≡ record_back H k
one_more_back r H k = refl

-- before record 0 all is at rest
pub back_to_rest : (H : List StepRecord) (k : ℕ) → length H ≤ k → record_back H k ≡ before_start
back_to_rest H k h = get_or_past H k before_start h
