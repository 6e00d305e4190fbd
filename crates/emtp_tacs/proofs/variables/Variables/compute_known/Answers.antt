use Rattle.std.proofs.Common.{◌≡◌, ◌∙◌, ◌++◌, ap, sym, subst, drop, length, take, true, ℤ, List, Ok, Err, Result, refl, ℕ, arith}
use Rattle.std.proofs.lemmas.List.{take_at}
use Rattle.std.proofs.lemmas.Result.{err_from_is_err_and}
use Rattle.emtp_case.specs.held.Control.{AreKnown}
use Rattle.emtp_case.specs.StepRecord.{latest}
use Rattle.emtp_tacs.specs.Part.{standing_values}
use Rattle.emtp_tacs.specs.held.Stages.{IsSoFar, Reaches, measured_by}
use Rattle.emtp_tacs.specs.Step.{Measured, SoFar, sources}
use Rattle.emtp_tacs.specs.declared.fault.TacsFault.{TacsFault}
use Rattle.emtp_tacs.proofs.Starting.{known_fails, known_is, so_far_first}
use Rattle.emtp_tacs.proofs.variables.Variables.compute_known.Goals as goal

pub returns-clause-known : goal.returns-clause-known
returns-clause-known c = λ H long stands.
    let case = c.args.case.now.parts in
    let step = c.args.step in
    let m : Measured = measured_by c.args.measured in
    let n = c.args.self.now.values.len in
    let old = c.args.self.now.values.items in
    let held = c.args.self.now.devices in
    let set = c.set_standing.new.values in
    let put = c.put_sources.new.values in
    let ds = (latest H).devices in
    let s : SoFar = record { values = put; devices = ds } in
    let first : c.deref_mut.result.now ≡ old = c.deref_mut.ensures.value in
    let set_long : length set ≡ n = omega (arith, c.set_standing.auto.values, ap length first, c.args.self.now.values.ok.0) in
    let second : c.deref_mut-2.result.now ≡ set = c.deref_mut-2.ensures.value ∙ take_at set (drop (length set) old) n set_long in
    let put_long : length put ≡ n = omega (arith, c.put_sources.auto.values, ap length second, set_long) in
    let put_is : take n (put ++ drop (length put) (take n (set ++ drop (length set) old))) ≡ put = take_at put (drop (length put) (take n (set ++ drop (length set) old))) n put_long in
    let given = subst (λ (vs : List ℤ). sources case step m (record { values = vs; devices = ds }) ≡ Ok s) second (c.in_ok-put_sources.ensures.sources ds) in
    let set_is = subst (λ (vs : List ℤ). set ≡ standing_values case.run step ++ drop 6 vs) first c.set_standing.ensures.value in
    let is = known_is case H m step old set s long stands.values set_is given in
    let so_far = so_far_first case H put held c.requires.holds.devices stands.devices stands.devices_count in
    subst (λ (d : Result SoFar TacsFault). Reaches c.compute_extras.result case H true (length case.extras) c.compute_extras.new.self.values.items c.compute_extras.new.self.devices d) (sym is)
    (c.compute_extras.ensures.pass H s long (subst (λ (vs : List ℤ). IsSoFar case H true 0 vs held s) (sym put_is) so_far))

pub returns-clause-var : goal.returns-clause-var
returns-clause-var c = c.compute_extras.ensures.var

pub returns-clause-holds : goal.returns-clause-holds
returns-clause-holds c = c.compute_extras.ensures.holds

pub set_standing-requires-clause-values : goal.set_standing-requires-clause-values
set_standing-requires-clause-values c = subst (AreKnown c.args.case.now.parts) (sym c.deref_mut.ensures.value) c.requires.holds.values

pub put_sources-requires-clause-measured : goal.put_sources-requires-clause-measured
put_sources-requires-clause-measured c = c.requires.measured

pub put_sources-requires-clause-values : goal.put_sources-requires-clause-values
put_sources-requires-clause-values c =
    let set = c.set_standing.new.values in
    let old = c.args.self.now.values.items in
    let long : length set ≡ c.args.self.now.values.len = omega (arith, c.set_standing.auto.values, ap length c.deref_mut.ensures.value, c.args.self.now.values.ok.0) in
    subst (AreKnown c.args.case.now.parts) (sym (c.deref_mut-2.ensures.value ∙ take_at set (drop (length set) old) c.args.self.now.values.len long)) c.set_standing.ensures.values

-- what is written over what was written before is whole
whole : (n : ℕ) (old set put seen seen-2 : List ℤ) → length old ≡ n → seen ≡ old → length set ≡ length seen → seen-2 ≡ take n (set ++ drop (length set) old) → length put ≡ length seen-2
    → take n (put ++ drop (length put) (take n (set ++ drop (length set) old))) ≡ put
whole n old set put seen seen-2 sized first set_sized second put_sized =
    let set_long : length set ≡ n = omega (arith, set_sized, ap length first, sized) in
    let put_long : length put ≡ n = omega (arith, put_sized, ap length second, ap length (take_at set (drop (length set) old) n set_long), set_long) in
    take_at put (drop (length put) (take n (set ++ drop (length set) old))) n put_long

pub returns-in_err-put_sources-clause-holds : goal.returns-in_err-put_sources-clause-holds
returns-in_err-put_sources-clause-holds c = record { devices = c.requires.holds.devices; values = subst (AreKnown c.args.case.now.parts) (sym (whole c.args.self.now.values.len c.args.self.now.values.items c.set_standing.new.values c.put_sources.new.values c.deref_mut.result.now c.deref_mut-2.result.now (omega (arith, c.args.self.now.values.ok.0)) c.deref_mut.ensures.value c.set_standing.auto.values c.deref_mut-2.ensures.value c.put_sources.auto.values)) c.put_sources.ensures.values; names = c.requires.holds.names }

pub compute_extras-requires : goal.compute_extras-requires
compute_extras-requires c = record { holds = record { devices = c.requires.holds.devices; values = subst (AreKnown c.args.case.now.parts) (sym (whole c.args.self.now.values.len c.args.self.now.values.items c.set_standing.new.values c.put_sources.new.values c.deref_mut.result.now c.deref_mut-2.result.now (omega (arith, c.args.self.now.values.ok.0)) c.deref_mut.ensures.value c.set_standing.auto.values c.deref_mut-2.ensures.value c.put_sources.auto.values)) c.put_sources.ensures.values; names = c.requires.holds.names } }

pub returns-in_err-put_sources-clause-known : goal.returns-in_err-put_sources-clause-known
returns-in_err-put_sources-clause-known c = λ H long stands.
    let case = c.args.case.now.parts in
    let step = c.args.step in
    let m : Measured = measured_by c.args.measured in
    let n = c.args.self.now.values.len in
    let old = c.args.self.now.values.items in
    let held = c.args.self.now.devices in
    let set = c.set_standing.new.values in
    let put = c.put_sources.new.values in
    let ds = (latest H).devices in
    let first : c.deref_mut.result.now ≡ old = c.deref_mut.ensures.value in
    let set_long : length set ≡ n = omega (arith, c.set_standing.auto.values, ap length first, c.args.self.now.values.ok.0) in
    let second : c.deref_mut-2.result.now ≡ set = c.deref_mut-2.ensures.value ∙ take_at set (drop (length set) old) n set_long in
    let given = subst (λ (vs : List ℤ). sources case step m (record { values = vs; devices = ds }) ≡ Err c.in_err-put_sources.field-0.0) second (c.in_err-put_sources.ensures.sources ds) in
    let set_is = subst (λ (vs : List ℤ). set ≡ standing_values case.run step ++ drop 6 vs) first c.set_standing.ensures.value in
    let is = known_fails case H m step old set c.in_err-put_sources.field-0.0 long stands.values set_is given in
    let returned = err_from_is_err_and c.from_residual.result c.from_residual.ensures.1 in
    let values = take n (put ++ drop (length put) (take n (set ++ drop (length set) old))) in
    subst (λ (d : Result SoFar TacsFault). Reaches c.from_residual.result case H true (length case.extras) values held d) (sym is)
    (subst (λ (r : Result (Unit {0}) TacsFault). Reaches r case H true (length case.extras) values held (Err c.in_err-put_sources.field-0.0)) (sym (returned.1 ∙ ap Err returned.2)) refl)
