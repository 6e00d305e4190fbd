use Rattle.std.proofs.Common.{◌≡◌, ◌∙◌, ap, refl, ℤ, FitsSigned, rules}
use mir.Syntax.{w64}
use Rattle.std.proofs.lemmas.Int.{to_z-of_z}
use Rattle.emtp_case.specs.declared.branch.Trio.{Trio}
use Rattle.emtp_line.specs.held.Held.{held_at_rest, trio_at_rest}
use Rattle.emtp_line.specs.Phases.{mode_of_trio, own_conductance, mutual_conductance}
use Rattle.emtp_line.specs.held.Waves.{waves_at_rest}
use Rattle.emtp_line.specs.declared.held.HeldLine.{HeldLine}
use Rattle.emtp_line.specs.declared.mode.Mode.{Mode}
use Rattle.emtp_line.specs.declared.waves.Waves.{Waves}
use Rattle.emtp_line.proofs.held_trio.HeldTrio.at_rest.Goals as goal

gathered : (dt : ℤ) (t : Trio) (zero' positive : Mode) (own coupling : ℤ) (z : Waves) (a b c : HeldLine) → zero' ≡ mode_of_trio dt t 0 → positive ≡ mode_of_trio dt t 1 → own ≡ own_conductance (record { zero_sequence = zero'; positive = positive }) → coupling ≡ mutual_conductance (record { zero_sequence = zero'; positive = positive })
    → z ≡ waves_at_rest zero' → a ≡ held_at_rest positive → b ≡ held_at_rest positive → c ≡ held_at_rest positive → record { own = own; coupling = coupling; zero_sequence = z; first = a; second = b; third = c } ≡ trio_at_rest dt t
gathered dt t zero' positive own coupling z a b c e0 e1 eo ec ez ea eb ec' = rw (eo, ec, ez, ea, eb, ec', e0, e1) refl

pub returns : goal.returns
returns c =
    let z : FitsSigned w64 c.mode_of_trio-zero.result.conductance = search rules in
    let p : FitsSigned w64 c.mode_of_trio-positive.result.conductance = search rules in
    let o : FitsSigned w64 c.own_conductance.result = search rules in
    let m : FitsSigned w64 c.mutual_conductance.result = search rules in
    let own = simp to_z-of_z at c.own_conductance.ensures.value in
    let coupling = simp to_z-of_z at c.mutual_conductance.ensures.value in
    let first = ap (λ (p : HeldLine × HeldLine × HeldLine). p.0) c.in_ok-first.ensures in
    let second = ap (λ (p : HeldLine × HeldLine × HeldLine). p.1) c.in_ok-first.ensures in
    let third = ap (λ (p : HeldLine × HeldLine × HeldLine). p.2) c.in_ok-first.ensures in
    gathered c.args.run.now.dt c.args.trio.now c.mode_of_trio-zero.result c.mode_of_trio-positive.result _ _ _ _ _ _ c.mode_of_trio-zero.ensures.value c.mode_of_trio-positive.ensures.value
    (to_z-of_z w64 c.own_conductance.result o ∙ own) (to_z-of_z w64 c.mutual_conductance.result m ∙ coupling) c.in_ok-zero_sequence.ensures first second third
