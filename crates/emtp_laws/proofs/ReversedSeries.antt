-- A series branch that is put in the other way round has the opposite current and voltages.
use Rattle.std.proofs.Common.{◌≡◌, ◌∙◌, ℤ, neg_ℤ, ◌-ℤ◌, List, [], ◌∷◌, map, option_map, refl, ap, arith}
use Rattle.std.proofs.lemmas.Int.{ints}
use Rattle.emtp_case.specs.declared.branch.Lumped.{Lumped}
use Rattle.emtp_case.specs.declared.branch.LumpedState.{LumpedState}
use Rattle.emtp_case.specs.declared.case.Parts.{Parts}
use Rattle.emtp_elim.specs.Matrix.{item}
use Rattle.emtp_laws.proofs.OddBranches.{lumped_turned}
use Rattle.emtp_laws.specs.Branches.{reversed_series, voltage_across}
use Rattle.emtp_laws.specs.Mirror.{mirrored_lumped}
use Rattle.emtp_lumped.specs.Companion.{companion_of}
use Rattle.emtp_lumped.specs.Lumps.{newest, next_of}
use Rattle.emtp_lumped.specs.Step.{next_state}

newest_turned : (past : List LumpedState) → newest (map mirrored_lumped past) ≡ mirrored_lumped (newest past)
newest_turned [] = refl
newest_turned (s ∷ past) = refl

turned_voltage : (a b : ℤ) → b -ℤ a ≡ neg_ℤ (a -ℤ b)
turned_voltage a b = omega (arith, ints)

pub reversed_alike : (case : Parts) (x : Lumped) (past : List LumpedState) (voltages : List ℤ)
    → next_of case (reversed_series x) (map mirrored_lumped past) (voltage_across voltages (reversed_series x)) ≡ option_map mirrored_lumped (next_of case x past (voltage_across voltages x))
reversed_alike case x past voltages =
    let c = companion_of case.run.dt x in
    ap (λ (s : LumpedState). next_state c s (voltage_across voltages (reversed_series x))) (newest_turned past)
    ∙ ap (next_state c (mirrored_lumped (newest past))) (turned_voltage (item voltages x.from) (item voltages x.to))
    ∙ lumped_turned c (newest past) (voltage_across voltages x)
