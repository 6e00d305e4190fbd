-- Where all sources come k steps later, and each begins after time 0, a run is at rest for k steps and then makes the same ones.
use Rattle.std.proofs.Common.{◌≡◌, ◌∙◌, ◌+◌, ◌≤◌, ap, sym, subst, refl, ℕ, zero, suc, pos, ◌*ℤ◌, List, [], ◌∷◌, length, get_or, None, arith}
use Rattle.emtp_case.specs.held.Case.{IsCase}
use Rattle.emtp_case.specs.StepRecord.{StepRecord, before_start, latest, record_back, rest_of}
use Rattle.emtp_case.specs.declared.case.Parts.{Parts}
use Rattle.emtp_fix.proofs.Chaining.{same_ok}
use Rattle.emtp_machine.proofs.Chains.{chain}
use Rattle.emtp_machine.proofs.Histories.{count, is_made}
use Rattle.emtp_machine.specs.History.{history_upto}
use Rattle.emtp_machine.specs.Laws.{records_upto}
use Rattle.emtp_machine.specs.held.Laws.{IsChain}
use Rattle.emtp_net.specs.Part.{NetworkPart}
use Rattle.emtp_net.specs.Step.{network_part}
use Rattle.emtp_net.specs.held.Part.{network_of}
use Rattle.emtp_laws_of_units.specs.Later.{StartsFromRest, later_source, with_later_sources}
use Rattle.emtp_laws_of_units.specs.Time.{HaveSameNetwork}
use Rattle.emtp_laws_of_units.proofs.ChangedSources.{ActAlike, same_step}
use Rattle.emtp_laws_of_units.proofs.CommonTimes.{whole_made}
use Rattle.emtp_laws_of_units.proofs.LaterSources.{value_later}
use Rattle.emtp_laws_of_units.proofs.RestingRuns.{AreAtRest, StepsAreOdd, chain_rests, rest_read, some_time}
use Rattle.emtp_laws_of_units.proofs.SameReadings.{PastsReadAlike, ReadAlike, network_read, read_back, read_on}

pub as_networks : (r s : StepRecord) → network_of r ≡ network_of s → HaveSameNetwork r s
as_networks r s same = record {
  voltages = ap (λ (p : NetworkPart). p.voltages) same;
  branches = ap (λ (p : NetworkPart). p.branches) same;
  switch_states = ap (λ (p : NetworkPart). p.switch_states) same;
  switch_currents = ap (λ (p : NetworkPart). p.switch_currents) same;
}

latest_rests : (case : Parts) (H : List StepRecord) → IsChain case H → AreAtRest case H → network_of (latest H) ≡ network_of (rest_of case)
latest_rests case [] is rest = absurd is
latest_rests case (r ∷ H) is rest = rest.0

-- record 0 alone reads as if it weren't there
first_read : (case : Parts) (k : ℕ) → ReadAlike (record_back (rest_of case ∷ []) k) before_start
first_read case k = rest_read case (rest_of case ∷ []) (refl, tt) k

more_read : (K H : List StepRecord) (r s : StepRecord) → network_of r ≡ network_of s → PastsReadAlike K H → PastsReadAlike (r ∷ K) (s ∷ H)
more_read K H r s same past zero = network_read r s same
more_read K H r s same past (suc k) = past k

-- the later run at step m is the run at step n: it has the same last record, and its records read alike
pub record IsLaterRun (case : Parts) (k n m : ℕ) : Type 0 where
  pub network : network_of (latest (records_upto (with_later_sources k case) m)) ≡ network_of (latest (records_upto case n))
  pub past : PastsReadAlike (records_upto (with_later_sources k case) m) (records_upto case n)

module _ (case : Parts) (k : ℕ) (fits : IsCase case) (from : StartsFromRest case) (odd : StepsAreOdd case) where
  rests_upto : (n : ℕ) → n ≤ k → (history_upto (with_later_sources k case) n).end ≡ None → AreAtRest (with_later_sources k case) (records_upto (with_later_sources k case) n)
  rests_upto n low running =
      chain_rests case k fits from odd (records_upto (with_later_sources k case) n) (chain (with_later_sources k case) n) (omega (arith, low, count (with_later_sources k case) n running))

  pub rest_upto : (n : ℕ) → n ≤ k → (history_upto (with_later_sources k case) n).end ≡ None → HaveSameNetwork (latest (records_upto (with_later_sources k case) n)) (rest_of case)
  rest_upto n low running =
      let H = records_upto (with_later_sources k case) n in
      as_networks (latest H) (rest_of case) (latest_rests (with_later_sources k case) H (chain (with_later_sources k case) n) (rests_upto n low running))

  -- after pasts that read alike, k steps apart, both come to the same network or to the same fault
  step_later : (K H : List StepRecord) → length K ≡ length H + k → PastsReadAlike K H → network_part (with_later_sources k case) K ≡ network_part case H
  step_later K H longer past =
      let act : ActAlike case (later_source (pos k *ℤ case.run.dt)) K H = record {
        nodes = λ s. refl;
        currents = λ s. refl;
        values = λ i d below. value_later case.run (latest K).values (latest H).values (get_or case.sources i d) k (length H) (length K) (some_time case fits) (from.sources i d below) longer;
      } in
      same_step case (later_source (pos k *ℤ case.run.dt)) K H act from.switches past

  pub later_run : (n m : ℕ) → m ≡ n + k → (history_upto (with_later_sources k case) m).end ≡ None → (history_upto case n).end ≡ None → IsLaterRun case k n m
  unfolding history_upto
  later_run zero m is there here =
      let K = records_upto (with_later_sources k case) m in
      let rest = rests_upto m (omega (arith, is)) there in
      record {
        network = latest_rests (with_later_sources k case) K (chain (with_later_sources k case) m) rest;
        past = λ i. read_on (record_back K i) before_start (record_back (rest_of case ∷ []) i) (rest_read (with_later_sources k case) K rest i) (read_back (record_back (rest_of case ∷ []) i) before_start (first_read case i));
      }
  later_run (suc n) zero is there here = absurd (omega (arith, is))
  later_run (suc n) (suc m) is there here =
      let other = with_later_sources k case in
      let new = is_made other m there in
      let old = is_made case n here in
      let K = records_upto other m in
      let H = records_upto case n in
      let before = later_run n m (omega (arith, is)) new.running old.running in
      let longer : length K ≡ length H + k = omega (arith, is, count other m new.running, count case n old.running) in
      let step = sym (whole_made other K new.r new.next_is) ∙ step_later K H longer before.past ∙ whole_made case H old.r old.next_is in
      let same : network_of new.r ≡ network_of old.r = same_ok (network_of new.r) (network_of old.r) step in
      record {
        network = ap (λ ks. network_of (latest ks)) new.records_are ∙ same ∙ sym (ap (λ hs. network_of (latest hs)) old.records_are);
        past = subst (λ ks. PastsReadAlike ks (records_upto case (suc n))) (sym new.records_are) (subst (PastsReadAlike (new.r ∷ K)) (sym old.records_are) (more_read K H new.r old.r same before.past));
      }

  pub same_later : (n : ℕ) → (history_upto (with_later_sources k case) (n + k)).end ≡ None → (history_upto case n).end ≡ None
      → HaveSameNetwork (latest (records_upto (with_later_sources k case) (n + k))) (latest (records_upto case n))
  same_later n there here =
      as_networks (latest (records_upto (with_later_sources k case) (n + k))) (latest (records_upto case n)) (later_run n (n + k) refl there here).network

  pub part_later : (n : ℕ) → (history_upto (with_later_sources k case) (n + k)).end ≡ None → (history_upto case n).end ≡ None
      → network_part (with_later_sources k case) (records_upto (with_later_sources k case) (n + k)) ≡ network_part case (records_upto case n)
  part_later n there here =
      let K = records_upto (with_later_sources k case) (n + k) in
      let H = records_upto case n in
      let longer : length K ≡ length H + k = omega (arith, count (with_later_sources k case) (n + k) there, count case n here) in
      step_later K H longer (later_run n (n + k) refl there here).past
