-- The warnings of series branches that act as others, since their conductance and impedances are whole numbers.
use Rattle.std.specs.Ordering.{int_eq}
use Rattle.std.specs.Prelude.{Bool, List, [], ◌∷◌, ◌++◌, ◌&&◌, int_lt, not, ℤ, pos}
use Rattle.emtp_acting.specs.Capacitance.{acting_capacitance, capacitance_is_off}
use Rattle.emtp_acting.specs.Clean.{clean_inductance}
use Rattle.emtp_acting.specs.Fictitious.{drift_of, drifts, fictitious_of, is_half, matters, resistance_of, with_resistance}
use Rattle.emtp_acting.specs.declared.fictitious.Fictitious.{Fictitious}
use Rattle.emtp_case.specs.declared.branch.Lumped.{Lumped}
use Rattle.emtp_warnings.specs.Finding.{found, of_line, when}
use Rattle.emtp_warnings.specs.declared.finding.Finding.TheVariants.{ActsAsWire, Drifts, OtherCapacitance, OtherResistance}
use Rattle.emtp_warnings.specs.declared.finding.Warning.{Warning}

-- |r| is more than a thousandth of L/T, and more than the 10^-4 part of R
abbrev pub drifts_in : Fictitious → ℤ → Lumped → Bool
drifts_in f time b = int_lt (pos 0) b.l && drifts f time b.l && matters f b.r

-- r, r T/L, and an inductance that has none to speak of
abbrev pub drift_by : Fictitious → ℤ → ℤ → Lumped → List Warning
drift_by f dt time b =
    when (drifts_in f time b) (of_line b.line (Drifts (resistance_of f) (drift_of f time b.l) (clean_inductance dt time b)))

abbrev pub drift_warnings : ℤ → ℤ → Lumped → List Warning
drift_warnings dt time b = drift_by (fictitious_of dt b) dt time b

-- what acts is R + r
abbrev pub resistance_warnings : ℤ → Lumped → List Warning
resistance_warnings dt b =
    found ((is_half (fictitious_of dt b) b.r, of_line b.line (OtherResistance (with_resistance (fictitious_of dt b) b.r))) ∷ [])

-- off by more than 10^-4
abbrev pub capacitance_by : Bool → ℤ → Lumped → List Warning
capacitance_by off acting b = found
    ((off && not (int_eq acting (pos 0)), of_line b.line (OtherCapacitance acting))
    ∷ (off && int_eq acting (pos 0), of_line b.line ActsAsWire) ∷ [])

abbrev pub capacitance_warnings : ℤ → Lumped → List Warning
capacitance_warnings dt b = capacitance_by (capacitance_is_off dt b.c) (acting_capacitance dt b.c) b

-- of a branch over a run of this time
abbrev pub series_warnings : ℤ → ℤ → Lumped → List Warning
series_warnings dt time b = drift_warnings dt time b ++ resistance_warnings dt b ++ capacitance_warnings dt b
