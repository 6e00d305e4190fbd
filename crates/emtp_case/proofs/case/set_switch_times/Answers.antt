use Rattle.std.specs.Prelude.{length}
use Rattle.std.proofs.Common.{◌∙◌, ap, sym, arith}
use Rattle.emtp_case.proofs.SwitchTimes.{set_none, set_all, entry_there, set_turn, pass_turn}
use Rattle.emtp_case.proofs.case.set_switch_times.Goals as goal
use Rattle.emtp_case.proofs.case.set_switch_times.Goals.{then-is_time, else-is_time}

pub loop-at-init : goal.loop-at-init
loop-at-init c = set_none c.args.switches.now c.args.times.now c.requires

pub bounds-as_slice-at : goal.bounds-as_slice-at
bounds-as_slice-at c = omega (arith, ap length c.as_slice.ensures, c.loop-at.invariant.same_len)

pub bounds-times-next : goal.bounds-times-next
bounds-times-next c =
    let time = rw c.as_slice.ensures at (sym c.is_time.ensures ∙ c.if-is_time.true) in
    entry_there c.loop-at.at c.loop-at.next c.args.switches.now c.loop-at.switches c.args.times.now _ c.loop-at.invariant (omega (arith, c.loop-at.invariant.same_len)) time

pub loop-at-preserved : goal.loop-at-preserved
loop-at-preserved c = elim c.if-is_time.branch [
  | then-is_time w ↦
      let time = rw c.as_slice.ensures at (sym c.is_time.ensures ∙ w.if-is_time.true) in
      let new = rw c.as_slice.ensures at w.with_times.ensures in
      set_turn c.loop-at.at c.loop-at.next c.args.switches.now c.loop-at.switches c.args.times.now _ _ w.with_times.result c.if-is_time.switches c.if-is_time.next c.loop-at.invariant (omega (arith, c.loop-at.invariant.same_len)) time new (w.switches-is ∙ w.set.ensures) w.next-is
  | else-is_time w ↦
      let other = rw c.as_slice.ensures at (sym c.is_time.ensures ∙ w.if-is_time.false) in
      pass_turn c.loop-at.at c.loop-at.next c.args.switches.now c.loop-at.switches c.args.times.now _ c.if-is_time.switches c.if-is_time.next c.loop-at.invariant (omega (arith, c.loop-at.invariant.same_len)) other w.switches-is w.next-is
]

pub returns : goal.returns
returns c = set_all c.loop-at.at c.loop-at.next c.args.switches.now c.loop-at.switches c.args.times.now c.loop-at.invariant (omega arith)
