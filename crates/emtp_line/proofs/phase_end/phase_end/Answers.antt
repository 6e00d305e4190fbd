use Rattle.std.proofs.Common.{◌≡◌, ◌∙◌, refl, ℤ, List, FitsSigned, rules}
use mir.Syntax.{w64, w128}
use Rattle.std.proofs.lemmas.Int.{to_z-of_z}
use Rattle.emtp_line.specs.held.Held.{held_modes}
use Rattle.emtp_line.specs.Phases.{Modes, phase_currents, phase_waves, zero_wave, phase_end}
use Rattle.emtp_line.proofs.phase_end.phase_end.Goals as goal

gathered : (m : Modes) (histories v i w : List ℤ) (z : ℤ) → i ≡ phase_currents m histories v → w ≡ phase_waves m v i → z ≡ zero_wave m v i → record { currents = i; waves = w; zero_wave = z } ≡ phase_end m histories v
gathered m histories v i w z ei ew ez = rw (ew, ez, ei) refl

pub returns : goal.returns
returns c =
    let t = c.args.trio.now in
    let own : FitsSigned w64 t.own = search rules in
    let coupling : FitsSigned w64 t.coupling = search rules in
    let z : FitsSigned w128 c.zero_wave-zero_wave.result = search rules in
    let i = c.currents-currents.ensures.value (held_modes t) (to_z-of_z w64 t.own own ∙ c.requires.trio.own) (to_z-of_z w64 t.coupling coupling ∙ c.requires.trio.coupling) in
    let w = c.waves-waves.ensures (held_modes t) refl in
    gathered (held_modes t) c.args.histories.now c.args.v.now c.currents-currents.result c.waves-waves.result _ i w (to_z-of_z w128 c.zero_wave-zero_wave.result z ∙ c.zero_wave-zero_wave.ensures)
