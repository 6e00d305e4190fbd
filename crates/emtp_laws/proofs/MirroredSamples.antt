-- The samples of a mirrored case.
use Rattle.std.proofs.Common.{◌≡◌, ◌∙◌, ◌++◌, ◌%◌, ◌==◌, ℕ, ℤ, pos, neg_ℤ, ◌-ℤ◌, if◌then◌else◌, Bool, true, false, List, [], ◌∷◌, map, length, slice_index, refl, ap, sym, arith}
use Rattle.std.specs.Int.{int_max, int_min}
use Rattle.std.proofs.lemmas.Int.{int_max_is, int_min_is, ints}
use Rattle.std.proofs.lemmas.List.{length-map, map_push}
use Rattle.emtp_case.specs.Branch.{from_of, to_of}
use Rattle.emtp_case.specs.StepRecord.{BranchState, LineBranch, LumpedBranch, PhaseBranch, PseudoBranch, StepRecord, current_of, voltage_at}
use Rattle.emtp_case.specs.declared.case.Parts.{Parts}
use Rattle.emtp_case.specs.declared.channel.Channel.{Channel}
use Rattle.emtp_case.specs.declared.channel.Channel.TheVariants.{BranchCurrent, BranchVoltage, NodeVoltage, Status, SwitchCurrent, SwitchVoltage, Tacs}
use Rattle.emtp_case.specs.declared.switch.Switch.{Switch}
use Rattle.emtp_fix.specs.declared.limit.TheConstants.{LARGEST_VALUE}
use Rattle.emtp_machine.specs.Channels.{channel_value, sample_of, samples_in, voltage_between, within_range}
use Rattle.emtp_laws.specs.Mirror.{mirror_image, mirrored_record, mirrored_records, mirrored_sample, mirrored_branch, mirrored_value}
use Rattle.emtp_laws.proofs.MirroredRecords.{kept_at}
use Rattle.emtp_elim.proofs.Opposites.{item_turned}

held_turned : (m : ℕ) (x : ℤ) → int_max (neg_ℤ (pos m)) (int_min (neg_ℤ x) (pos m)) ≡ neg_ℤ (int_max (neg_ℤ (pos m)) (int_min x (pos m)))
held_turned m x =
    omega (
      arith,
      ints,
      int_min_is x (pos m),
      int_min_is (neg_ℤ x) (pos m),
      int_max_is (neg_ℤ (pos m)) (int_min x (pos m)),
      int_max_is (neg_ℤ (pos m)) (int_min (neg_ℤ x) (pos m)),
    )

within_turned : (x y : ℤ) → y ≡ neg_ℤ x → within_range y ≡ neg_ℤ (within_range x)
within_turned x y e = ap within_range e ∙ held_turned LARGEST_VALUE x

between_turned : (r : StepRecord) (a b : ℕ) → voltage_between (mirrored_record r) a b ≡ neg_ℤ (voltage_between r a b)
between_turned r a b =
    let apart : voltage_at a (mirrored_record r) -ℤ voltage_at b (mirrored_record r) ≡ neg_ℤ (voltage_at a r -ℤ voltage_at b r) = omega (arith, ints, item_turned r.voltages a, item_turned r.voltages b) in
    within_turned (voltage_at a r -ℤ voltage_at b r) (voltage_at a (mirrored_record r) -ℤ voltage_at b (mirrored_record r)) apart

pub current_turned : (s : BranchState) → current_of (mirrored_branch s) ≡ neg_ℤ (current_of s)
current_turned (LumpedBranch s) = refl
current_turned (LineBranch s) = refl
current_turned (PseudoBranch s) = refl
current_turned (PhaseBranch s) = refl

value_turned : (case : Parts) (r : StepRecord) (c : Channel) → channel_value (mirror_image case) (mirrored_record r) c ≡ mirrored_value c (channel_value case r c)
value_turned case r (NodeVoltage n) = item_turned r.voltages n
value_turned case r (BranchCurrent b) = kept_at current_of neg_ℤ (pos 0) current_turned b r.branches
value_turned case r (BranchVoltage b) = between_turned r (slice_index (map from_of case.branches) b) (slice_index (map to_of case.branches) b)
value_turned case r (SwitchCurrent s) = item_turned r.switch_currents s
value_turned case r (SwitchVoltage s) = between_turned r (slice_index (map (λ (x : Switch). x.from) case.switches) s) (slice_index (map (λ (x : Switch). x.to) case.switches) s)
value_turned case r (Tacs v) = refl
value_turned case r (Status s) = refl

sample_turned : (case : Parts) (r : StepRecord) (cs : List Channel) → map (channel_value (mirror_image case) (mirrored_record r)) cs ≡ mirrored_sample cs (map (channel_value case r) cs)
sample_turned case r [] = refl
sample_turned case r (c ∷ cs) =
    ap (λ x. x ∷ map (channel_value (mirror_image case) (mirrored_record r)) cs) (value_turned case r c)
    ∙ ap (λ xs. mirrored_value c (channel_value case r c) ∷ xs) (sample_turned case r cs)

by_test : (b : Bool) (f : List ℤ → List ℤ) (xs : List (List ℤ)) (y z : List ℤ) → z ≡ f y → (if b then map f xs ++ z ∷ [] else map f xs) ≡ map f (if b then xs ++ y ∷ [] else xs)
by_test true f xs y z e = ap (λ u. map f xs ++ u ∷ []) e ∙ sym (map_push f xs y)
by_test false f xs y z e = refl

pub samples_turned : (case : Parts) (H : List StepRecord) → samples_in (mirror_image case) (mirrored_records H) ≡ map (mirrored_sample case.channels) (samples_in case H)
unfolding samples_in
samples_turned case [] = refl
samples_turned case (r ∷ past) =
    let f = mirrored_sample case.channels in
    let new = sample_of (mirror_image case) (mirrored_record r) in
    ap (λ n. if n % case.run.every == 0 then samples_in (mirror_image case) (mirrored_records past) ++ new ∷ [] else samples_in (mirror_image case) (mirrored_records past)) (length-map past mirrored_record)
    ∙ ap (λ (xs : List (List ℤ)). if length past % case.run.every == 0 then xs ++ new ∷ [] else xs) (samples_turned case past)
    ∙ by_test (length past % case.run.every == 0) f (samples_in case past) (sample_of case r) new (sample_turned case r case.channels)
