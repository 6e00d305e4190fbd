use Rattle.std.proofs.Common.{◌++◌, ◌∙◌, ap, List, ℕ, FitsSigned, append_assoc}
use mir.Syntax.{w64}
use Rattle.std.proofs.lemmas.Int.{to_z-of_z}
use Rattle.emtp_warnings.proofs.Pieces.{next_piece}
use Rattle.emtp_warnings.specs.WarningText.{clean_text, drift_text, quantity_text}
use Rattle.emtp_warnings.specs.declared.words.TheConstants.{DRIFT, NO_UNIT, OHM, SERIES_RESISTANCE}
use Rattle.emtp_warnings.proofs.text.put_drift.Goals as goal

pub returns : goal.returns
unfolding drift_text
returns c =
    let r : FitsSigned w64 c.args.resistance = c.ranges.resistance in
    let d : FitsSigned w64 c.args.drift = c.ranges.drift in
    let one = quantity_text SERIES_RESISTANCE.now c.args.resistance 9 OHM.now in
    let other = quantity_text DRIFT.now c.args.drift 9 NO_UNIT.now in
    let first = simp to_z-of_z at (c.in_ok-put_quantity.ensures {u = tt}) in
    let second = simp to_z-of_z at (c.in_ok-put_quantity-2.ensures {u = tt}) in
    next_piece c.put_clean.result c.args.text.now.items c.put_quantity-2.new.text.items c.put_clean.new.text.items (one ++ other) (clean_text c.args.clean)
    (second ∙ ap (λ (t : List ℕ). t ++ other) first ∙ append_assoc c.args.text.now.items one other) c.put_clean.ensures
