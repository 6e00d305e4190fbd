use Rattle.std.proofs.Common.{◌∙◌, FitsSigned, arith, rules}
use mir.Syntax.{w64, w128}
use Rattle.std.proofs.lemmas.Int.{to_z-of_z}
use Rattle.emtp_fix.proofs.Wide.{through}
use Rattle.emtp_line.specs.Phases.{of_phase}
use Rattle.emtp_line.proofs.Bounds.{three_same, wave_same}
use Rattle.emtp_line.proofs.phase_end.waves.Goals as goal

pub returns : goal.returns
returns c = λ m mode.
    let vm : FitsSigned w128 c.mean_voltage-v_mean.result = search rules in
    let im : FitsSigned w128 c.mean_current-i_mean.result = search rules in
    let f0 : FitsSigned w64 (of_phase c.args.v.now 0) = search rules in
    let g0 : FitsSigned w128 (of_phase c.args.i.now 0) = search rules in
    let r0 : FitsSigned w128 c.wave_apart-first.result = search rules in
    let w0 = simp to_z-of_z at c.wave_apart-first.ensures in
    let f1 : FitsSigned w64 (of_phase c.args.v.now 1) = search rules in
    let g1 : FitsSigned w128 (of_phase c.args.i.now 1) = search rules in
    let r1 : FitsSigned w128 c.wave_apart-second.result = search rules in
    let w1 = simp to_z-of_z at c.wave_apart-second.ensures in
    let f2 : FitsSigned w64 (of_phase c.args.v.now 2) = search rules in
    let g2 : FitsSigned w128 (of_phase c.args.i.now 2) = search rules in
    let r2 : FitsSigned w128 c.wave_apart-third.result = search rules in
    let w2 = simp to_z-of_z at c.wave_apart-third.ensures in
    let v = c.mean_voltage-v_mean.ensures.value in
    let i = c.mean_current-i_mean.ensures.value in
    three_same
    (to_z-of_z w128 _ r0 ∙ w0 ∙ wave_same _ _ _ _ _ _ _ _ mode v i)
    (to_z-of_z w128 _ r1 ∙ w1 ∙ wave_same _ _ _ _ _ _ _ _ mode v i)
    (to_z-of_z w128 _ r2 ∙ w2 ∙ wave_same _ _ _ _ _ _ _ _ mode v i)

pub wave_apart-first-requires-clause-mode : goal.wave_apart-first-requires-clause-mode
wave_apart-first-requires-clause-mode c = c.requires.mode

pub wave_apart-first-requires-clause-v_mean : goal.wave_apart-first-requires-clause-v_mean
wave_apart-first-requires-clause-v_mean c = rw (through c.mean_voltage-v_mean.result (omega (arith, c.mean_voltage-v_mean.ensures.bound))) c.mean_voltage-v_mean.ensures.bound

pub wave_apart-first-requires-clause-i : goal.wave_apart-first-requires-clause-i
wave_apart-first-requires-clause-i c = rw (through (of_phase c.args.i.now 0) (omega (arith, c.requires.i.first))) c.requires.i.first

pub wave_apart-first-requires-clause-i_mean : goal.wave_apart-first-requires-clause-i_mean
wave_apart-first-requires-clause-i_mean c = rw (through c.mean_current-i_mean.result (omega (arith, c.mean_current-i_mean.ensures.bound))) c.mean_current-i_mean.ensures.bound

pub wave_apart-second-requires-clause-mode : goal.wave_apart-second-requires-clause-mode
wave_apart-second-requires-clause-mode c = c.requires.mode

pub wave_apart-second-requires-clause-v_mean : goal.wave_apart-second-requires-clause-v_mean
wave_apart-second-requires-clause-v_mean c = rw (through c.mean_voltage-v_mean.result (omega (arith, c.mean_voltage-v_mean.ensures.bound))) c.mean_voltage-v_mean.ensures.bound

pub wave_apart-second-requires-clause-i : goal.wave_apart-second-requires-clause-i
wave_apart-second-requires-clause-i c = rw (through (of_phase c.args.i.now 1) (omega (arith, c.requires.i.second))) c.requires.i.second

pub wave_apart-second-requires-clause-i_mean : goal.wave_apart-second-requires-clause-i_mean
wave_apart-second-requires-clause-i_mean c = rw (through c.mean_current-i_mean.result (omega (arith, c.mean_current-i_mean.ensures.bound))) c.mean_current-i_mean.ensures.bound

pub wave_apart-third-requires-clause-mode : goal.wave_apart-third-requires-clause-mode
wave_apart-third-requires-clause-mode c = c.requires.mode

pub wave_apart-third-requires-clause-v_mean : goal.wave_apart-third-requires-clause-v_mean
wave_apart-third-requires-clause-v_mean c = rw (through c.mean_voltage-v_mean.result (omega (arith, c.mean_voltage-v_mean.ensures.bound))) c.mean_voltage-v_mean.ensures.bound

pub wave_apart-third-requires-clause-i : goal.wave_apart-third-requires-clause-i
wave_apart-third-requires-clause-i c = rw (through (of_phase c.args.i.now 2) (omega (arith, c.requires.i.third))) c.requires.i.third

pub wave_apart-third-requires-clause-i_mean : goal.wave_apart-third-requires-clause-i_mean
wave_apart-third-requires-clause-i_mean c = rw (through c.mean_current-i_mean.result (omega (arith, c.mean_current-i_mean.ensures.bound))) c.mean_current-i_mean.ensures.bound
