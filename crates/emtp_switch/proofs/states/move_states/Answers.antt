use Rattle.emtp_fix.specs.declared.limit.TheConstants.{LARGEST_TIME}
use Rattle.std.proofs.Common.{◌≡◌, ℤ, length, to_z, of_z, ap, sym, ◌∙◌, FitsSigned, arith, rules}
use mir.Syntax.{w64}
use Rattle.std.proofs.lemmas.Bool.{true≢false}
use Rattle.std.proofs.lemmas.Int.{ints, to_z-of_z}
use Rattle.emtp_case.specs.held.Range.{IsBetween}
use Rattle.emtp_case.specs.StepRecord.{latest}
use Rattle.emtp_case.specs.declared.switch.Switch.{Switch}
use Rattle.emtp_fix.proofs.Wide.{through_64}
use Rattle.emtp_switch.specs.Groups.{state_at, switch_at}
use Rattle.emtp_fix.specs.Items.{item}
use Rattle.emtp_switch.specs.States.{state_after, view_of}
use Rattle.emtp_switch.specs.held.Switching.{AreKept, AreLatest}
use Rattle.emtp_switch.specs.declared.states.View.{View}
use Rattle.emtp_switch.proofs.Moving.{all_moved, moved_more, view_is}
use Rattle.emtp_switch.proofs.states.move_states.Goals as goal
use Rattle.emtp_switch.proofs.states.move_states.Goals.{then-replace, else-replace}

time_through : (time : ℤ) → IsBetween 0 LARGEST_TIME time → to_z w64 (of_z w64 time) ≡ time
time_through time within = through_64 time (omega (arith, ints, within.least, within.most))

pub loop-s-preserved : goal.loop-s-preserved
loop-s-preserved c =
    let p = c.args.case.now.parts in
    let s = c.loop-s.s in
    let switches = c.as_slice-switches.result.now in
    let x = switch_at switches s in
    let same_x : x ≡ switch_at p.switches s = ap (λ l. switch_at l s) c.as_slice-switches.ensures in
    let count : length switches ≡ length p.switches = ap length c.as_slice-switches.ensures in
    let start = c.args.states.now in
    let states = c.loop-s.states in
    let v = c.view_of-view.result in
    let now = item c.args.last.currents.now s in
    let then = item c.args.before.now s in
    let fits_now : FitsSigned w64 now = search rules in
    let fits_then : FitsSigned w64 then = search rules in
    moved_more p (λ H. AreKept start c.args.before.now H × AreLatest c.args.step c.args.last.voltages.now c.args.last.currents.now c.args.last.values.now H) start states c.replace.new.states s c.state_after-state.result c.loop-s.changed c.replace.result c.if-replace.changed
    c.loop-s.invariant (omega (arith, count))
    (λ H fits same.
    let seen : v ≡ view_of p H x s = view_is p H x s c.args.step start c.args.last.voltages.now c.args.last.currents.now c.args.before.now c.args.last.values.now v fits.0 fits.1 (omega (arith, count))
    (c.view_of-view.ensures.time ∙ time_through c.time-time.result c.time-time.ensures.bound ∙ c.time-time.ensures.value)
    (c.view_of-view.ensures.current ∙ to_z-of_z w64 now fits_now)
    (c.view_of-view.ensures.before ∙ to_z-of_z w64 then fits_then) c.view_of-view.ensures.voltage (c.view_of-view.ensures.on (latest H) fits.1.values_are) in
    c.state_after-state.ensures ∙ ap (λ (w : View). state_after x.kind w (state_at states s)) seen ∙ ap (λ (y : Switch). state_after y.kind (view_of p H y s) (state_at states s)) same_x
    ∙ ap (state_after (switch_at p.switches s).kind (view_of p H (switch_at p.switches s) s)) (same ∙ ap (λ l. state_at l s) fits.0.states_are))
    c.replace.ensures.states c.replace.ensures.same c.replace.ensures.other
    (λ off. elim c.if-replace.branch [
      | then-replace w ↦ absurd (true≢false (sym w.if-replace.true ∙ off))
      | else-replace w ↦ w.changed-is
    ])
    (λ on. elim c.if-replace.branch [
      | then-replace w ↦ w.changed-is
      | else-replace w ↦ absurd (true≢false (sym on ∙ w.if-replace.false))
    ])

pub returns-clause-moved : goal.returns-clause-moved
returns-clause-moved c = λ H kept is. all_moved c.args.case.now.parts (λ H. AreKept c.args.states.now c.args.before.now H × AreLatest c.args.step c.args.last.voltages.now c.args.last.currents.now c.args.last.values.now H) c.args.states.now c.loop-s.states c.loop-s.s c.loop-s.changed
    c.loop-s.invariant (omega arith) (omega (arith, ap length c.as_slice-switches.ensures)) H (kept, is)
