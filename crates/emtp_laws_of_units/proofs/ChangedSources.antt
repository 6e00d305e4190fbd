-- A case whose sources have other numbers at the same nodes takes the same step of the network after records that read as those of
-- the case do, where each source has the same value.
use Rattle.std.proofs.Common.{◌≡◌, ◌∙◌, ◌==◌, ◌&&◌, ◌||◌, not, ap, refl, ℕ, ℤ, pos, ◌+ℤ◌, if◌then◌else◌, All, Bool, true, false, List, [], ◌∷◌, length, map, get_or, slice_get, Some, option_map}
use Rattle.std.specs.List.{find, list_any}
use Rattle.std.specs.Prelude.{unwrap_or}
use Rattle.std.proofs.Math.Path.{fun_ext}
use Rattle.std.proofs.lemmas.List.Elements.{All-head, All-tail}
use Rattle.emtp_case.specs.RowOrder.{has_source}
use Rattle.emtp_case.specs.Source.{is_voltage_source_at}
use Rattle.emtp_case.specs.StepRecord.{StepRecord}
use Rattle.emtp_case.specs.Sums.{total}
use Rattle.emtp_case.specs.declared.case.Parts.{Parts}
use Rattle.emtp_case.specs.declared.source.Source.{Source}
use Rattle.emtp_elim.specs.Matrix.{list_of}
use Rattle.emtp_net.specs.Step.{network_part}
use Rattle.emtp_net.specs.System.{source_value, sources_into, voltage_of}
use Rattle.emtp_switch.specs.Kinds.{has_feed, is_branch_at, is_current_source_at}
use Rattle.emtp_laws.proofs.AlikeRows.{changed}
use Rattle.emtp_laws.proofs.AlikeNetworks.{TakeAlike, network_same}
use Rattle.emtp_laws_of_units.proofs.Memoryless.{emptied}
use Rattle.emtp_laws_of_units.proofs.SameReadings.{PastsReadAlike, conductance_same, having, history_same, state_same}

-- ---- lists that are changed

any_changed : {X Y : Type 0} (p : Y → Bool) (q : X → Bool) (g : X → Y) → ((x : X) → p (g x) ≡ q x) → (xs : List X) → list_any p (map g xs) ≡ list_any q xs
any_changed p q g same [] = refl
any_changed p q g same (x ∷ xs) = ap (λ b. b || list_any p (map g xs)) (same x) ∙ ap (λ b. q x || b) (any_changed p q g same xs)

total_changed : {X Y : Type 0} (f : Y → ℤ) (h : X → ℤ) (g : X → Y) (xs : List X) → All (λ x. f (g x) ≡ h x) xs → total f (map g xs) ≡ total h xs
total_changed f h g [] all = refl
total_changed {X = X} f h g (x ∷ xs) all =
    ap (λ z. z +ℤ total f (map g xs)) (All-head (λ (y : X). f (g y) ≡ h y) x xs all)
    ∙ ap (λ z. h x +ℤ z) (total_changed f h g xs (All-tail (λ (y : X). f (g y) ≡ h y) x xs all))

found_changed : {X Y : Type 0} (p : Y → Bool) (q : X → Bool) (f : Y → ℤ) (h : X → ℤ) (g : X → Y) → ((x : X) → p (g x) ≡ q x) → (xs : List X) → All (λ x. f (g x) ≡ h x) xs → option_map f (find p (map g xs)) ≡ option_map h (find q xs)
found_changed p q f h g same [] all = refl
found_changed {X = X} p q f h g same (x ∷ xs) all =
    ap (λ b. option_map f (if b then Some (g x) else find p (map g xs))) (same x)
    ∙ by_test (q x) (found_changed p q f h g same xs (All-tail (λ (y : X). f (g y) ≡ h y) x xs all))
  where
    by_test : (b : Bool) → option_map f (find p (map g xs)) ≡ option_map h (find q xs) → option_map f (if b then Some (g x) else find p (map g xs)) ≡ option_map h (if b then Some x else find q xs)
    by_test true on = ap Some (All-head (λ (y : X). f (g y) ≡ h y) x xs all)
    by_test false on = on

-- ---- the step

-- the sources stay where they are, and each has the same value in the step after the one records as before in that after the others
pub record ActAlike (case : Parts) (g : Source → Source) (K H : List StepRecord) : Type 0 where
  pub nodes : (s : Source) → (g s).node ≡ s.node
  pub currents : (s : Source) → (g s).current ≡ s.current
  pub values : All (λ (s : Source). source_value (changed (having (map g case.sources) case) case) K (g s) ≡ source_value case H s) case.sources

module _ (case : Parts) (g : Source → Source) (K H : List StepRecord) (act : ActAlike case g K H) where
  held_at : (n : ℕ) (s : Source) → is_voltage_source_at n (g s) ≡ is_voltage_source_at n s
  held_at n s = ap (λ c. not c && ((g s).node == n)) (act.currents s) ∙ ap (λ m. not s.current && (m == n)) (act.nodes s)

  fed_at : (n : ℕ) (s : Source) → is_current_source_at n (g s) ≡ is_current_source_at n s
  fed_at n s = ap (λ c. c && ((g s).node == n)) (act.currents s) ∙ ap (λ m. s.current && (m == n)) (act.nodes s)

  known_same : has_source (changed (having (map g case.sources) case) case) ≡ has_source case
  known_same = fun_ext (λ n. any_changed (is_voltage_source_at n) (is_voltage_source_at n) g (held_at n) case.sources)

  feed_same : has_feed (changed (having (map g case.sources) case) case) ≡ has_feed case
  feed_same = fun_ext (λ n. ap (λ b. list_any (is_branch_at n) case.branches || b) (any_changed (is_current_source_at n) (is_current_source_at n) g (fed_at n) case.sources))

  abbrev brought : ℕ → Source → ℤ
  brought n s = if is_current_source_at n s then source_value (changed (having (map g case.sources) case) case) K s else pos 0

  into_same : sources_into (changed (having (map g case.sources) case) case) K ≡ sources_into case H
  into_same = fun_ext (λ n. total_changed (brought n) (λ s. if is_current_source_at n s then source_value case H s else pos 0) g case.sources
      (λ k d below. ap (λ b. if b then source_value (changed (having (map g case.sources) case) case) K (g (get_or case.sources k d)) else pos 0) (fed_at n (get_or case.sources k d))
      ∙ ap (λ v. if is_current_source_at n (get_or case.sources k d) then v else pos 0) (act.values k d below)))

  voltage_same : voltage_of (changed (having (map g case.sources) case) case) K ≡ voltage_of case H
  voltage_same = fun_ext (λ n. ap (λ o. unwrap_or o (pos 0))
      (found_changed (is_voltage_source_at n) (is_voltage_source_at n) (source_value (changed (having (map g case.sources) case) case) K) (source_value case H) g (held_at n) case.sources act.values))

  alike : case.switches ≡ [] → PastsReadAlike K H → TakeAlike case (having (map g case.sources) case) K H
  alike none same = record {
    known = known_same;
    feed = feed_same;
    own = ap (list_of (length case.branches)) (fun_ext (λ b. conductance_same case (map g case.sources) K H same b (slice_get case.branches b)));
    coupling = refl;
    states = emptied (length case.switches) _ _ (ap length none);
    history = fun_ext (λ b. history_same case (map g case.sources) K H same b (slice_get case.branches b));
    into = into_same;
    held = voltage_same;
    moves = fun_ext (λ vs. fun_ext (λ b. state_same case (map g case.sources) K H same vs b (slice_get case.branches b)));
  }

  pub same_step : case.switches ≡ [] → PastsReadAlike K H → network_part (changed (having (map g case.sources) case) case) K ≡ network_part case H
  same_step none same = network_same case (having (map g case.sources) case) K H (alike none same)
