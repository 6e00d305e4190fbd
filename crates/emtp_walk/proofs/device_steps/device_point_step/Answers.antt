use Rattle.std.proofs.Common.{ap, sym, ℕ, zero, suc, List, [], ◌∷◌, All, Option, Ok, IfSome, rules}
use mir.Syntax.{w64}
use Rattle.std.proofs.lemmas.Int.{to_z-of_z}
use Rattle.std.proofs.lemmas.List.Elements.{All-head, All-tail}
use Rattle.emtp_case.specs.declared.branch.Point.{Point}
use Rattle.emtp_walk.specs.Answer.{go_on}
use Rattle.emtp_walk.specs.ControlSteps.{device_point_or_end, device_point_step}
use Rattle.emtp_walk.specs.held.Sound.{before_at}
use Rattle.emtp_walk.proofs.Walking.{leaves}
use Rattle.emtp_walk.proofs.device_steps.device_point_step.Goals as goal

before_fits : (P : Point → Type 0) (points : List Point) (k : ℕ) → All P points → IfSome (before_at points k) P
before_fits P points zero all = tt
before_fits P [] (suc k) all = tt
before_fits P (p ∷ points) (suc zero) all = All-head P p points all
before_fits P (p ∷ points) (suc (suc k)) all = before_fits P points (suc k) (All-tail P p points all)

pub next_point-requires-clause-before : goal.next_point-requires-clause-before
next_point-requires-clause-before c = let group = c.requires.sound.1 in rw (c.device_scale-scale.ensures, group.before) (before_fits _ _ c.args.group.now.count group.points)

pub returns-in-Ok-Some-clause-value : goal.returns-in-Ok-Some-clause-value
unfolding device_point_step
returns-in-Ok-Some-clause-value c =
    let read = rw (c.in-Ok-Some.field-0-is, c.device_scale-scale.ensures, to_z-of_z w64 c.args.deck.now.run.dt (search rules)) at c.in-Ok-Some.ensures.value in
    leaves c.take_device_point.result _ _ _ (ap (go_on (λ (point : Option Point). Ok (device_point_or_end c.args.deck.now c.args.group.now point))) (sym read)) c.take_device_point.ensures.ok c.take_device_point.ensures.bad

pub returns-in-Ok-None-clause-value : goal.returns-in-Ok-None-clause-value
unfolding device_point_step
returns-in-Ok-None-clause-value c =
    let read = rw (c.in-Ok-None.field-0-is, c.device_scale-scale.ensures, to_z-of_z w64 c.args.deck.now.run.dt (search rules)) at c.in-Ok-None.ensures.value in
    leaves c.end_device.result _ _ _ (ap (go_on (λ (point : Option Point). Ok (device_point_or_end c.args.deck.now c.args.group.now point))) (sym read)) c.end_device.ensures.ok c.end_device.ensures.bad
