-- The lines of the control: for each kind of record one table of entries, with names, places, units and values.
use Rattle.std.specs.Prelude.{◌++◌, ◌∷◌, [], Bool, true, false, List, codes, decimal, length, map, ℕ, ℤ, slice_index_or}
use Rattle.emtp_case.specs.Branch.{points_of}
use Rattle.emtp_case.specs.declared.branch.Point.{Point}
use Rattle.emtp_case.specs.declared.control.Block.{Block}
use Rattle.emtp_case.specs.declared.control.Bound.{Bound}
use Rattle.emtp_case.specs.declared.control.Bound.TheVariants.{Fixed, Named, None as NoBound}
use Rattle.emtp_case.specs.declared.control.Device.{Device}
use Rattle.emtp_case.specs.declared.control.DeviceCode.{DeviceCode}
use Rattle.emtp_case.specs.declared.control.DeviceCode.TheVariants.{Counter, Delay, DelayedPulse, Derivative, EffectiveValue, Extreme, Gate, GateAbove, Integral, PeakHold, SampleHold, Selector, Table, Window}
use Rattle.emtp_case.specs.declared.control.Extra.{Extra}
use Rattle.emtp_case.specs.declared.control.Extra.TheVariants.{Device as OfDevice, Formula as OfFormula}
use Rattle.emtp_case.specs.declared.control.Formula.{Formula}
use Rattle.emtp_case.specs.declared.control.Group.{Group}
use Rattle.emtp_case.specs.declared.control.Group.TheVariants.{Input as BeforeBlocks, Inside, Output}
use Rattle.emtp_case.specs.declared.control.Input.{Input}
use Rattle.emtp_case.specs.declared.source.Source.{Source}
use Rattle.emtp_listing.specs.Entry.{choice_entry, count_entry, figure_entry, number_entry, place_entry, time_entry, variable_entry, word_entry}
use Rattle.emtp_listing.specs.ExpressionText.{expression_text}
use Rattle.emtp_listing.specs.Lines.{all_separated, card_line, head_text, numbered}
use Rattle.emtp_listing.specs.NetworkLines.{shape_entries}

-- ---- sources of the control, whose values have no unit

abbrev pub tacs_source_line : List (List ℕ) → List (List ℕ) → Source → List ℕ
tacs_source_line nodes vars s =
    card_line s.line (codes "control source")
    (variable_entry (codes "NAME") vars s.node
    ∷ figure_entry (codes "amplitude") 9 [] s.amplitude
    ∷ number_entry (codes "TSTART") 12 (codes "s") s.start
    ∷ time_entry (codes "TSTOP") s.stop
    ∷ shape_entries nodes vars s.shape)

-- ---- inputs

abbrev pub input_sign : Bool → List ℕ
input_sign false = codes "+"
input_sign true = codes "-"

-- the sign and the variable
abbrev pub input_entry : List (List ℕ) → Input → List ℕ
input_entry vars i = word_entry (codes "input") (input_sign i.minus ++ slice_index_or vars i.var [])

-- how many there are, and each
abbrev pub input_entries : List (List ℕ) → List Input → List (List ℕ)
input_entries vars inputs = count_entry (codes "inputs") (length inputs) ∷ map (input_entry vars) inputs

-- ---- blocks

-- a limit of a block's output, the low or the high one
abbrev pub bound_entry : List ℕ → List (List ℕ) → Bound → List ℕ
bound_entry side vars NoBound = codes "no " ++ side
bound_entry side vars (Fixed x) = figure_entry (codes "fixed " ++ side) 9 [] x
bound_entry side vars (Named v) = variable_entry (codes "variable " ++ side) vars v

abbrev pub block_entries : List (List ℕ) → Block → List (List ℕ)
block_entries vars b =
    variable_entry (codes "NAME") vars b.var
    ∷ count_entry (codes "order") b.order
    ∷ figure_entry (codes "gain") 12 [] b.gain
    ∷ bound_entry (codes "low limit") vars b.low
    ∷ bound_entry (codes "high limit") vars b.high
    ∷ input_entries vars b.inputs

-- the coefficient of a power of s
abbrev pub power_entry : ℕ → ℤ → List ℕ
power_entry power x = figure_entry (codes "s^" ++ decimal power) 12 [] x

abbrev pub polynomial_line : List ℕ → List ℤ → List ℕ
polynomial_line word card = word ++ all_separated (numbered power_entry 0 card)

-- a block, its numerator and its denominator
abbrev pub block_lines : List (List ℕ) → Block → List (List ℕ)
block_lines vars b =
    card_line b.line (codes "block") (block_entries vars b)
    ∷ polynomial_line (codes "numerator") b.top
    ∷ polynomial_line (codes "denominator") b.bottom
    ∷ []

-- ---- devices

-- the number of its card
abbrev pub group_number : Group → ℕ
group_number BeforeBlocks = 99
group_number Inside = 88
group_number Output = 98

abbrev pub code_number : DeviceCode → ℕ
code_number Gate = 51
code_number GateAbove = 52
code_number Delay = 53
code_number DelayedPulse = 54
code_number Table = 56
code_number Window = 57
code_number Integral = 58
code_number Derivative = 59
code_number Selector = 60
code_number SampleHold = 62
code_number Extreme = 63
code_number PeakHold = 64
code_number Counter = 65
code_number EffectiveValue = 66

-- A is a time of both delays, a frequency of the effective value, and of the others a number without unit
abbrev pub a_places : DeviceCode → ℕ
a_places Delay = 12
a_places DelayedPulse = 12
a_places EffectiveValue = 6
a_places code = 9

abbrev pub a_tail : DeviceCode → List ℕ
a_tail Delay = codes " s"
a_tail DelayedPulse = codes " s"
a_tail EffectiveValue = codes " Hz"
a_tail code = []

abbrev pub device_entries : List (List ℕ) → Device → List (List ℕ)
device_entries vars x =
    variable_entry (codes "NAME") vars x.var
    ∷ count_entry (codes "card") (group_number x.group)
    ∷ count_entry (codes "code") (code_number x.code)
    ∷ figure_entry (codes "A") (a_places x.code) (a_tail x.code) x.a
    ∷ figure_entry (codes "B") 9 [] x.b
    ∷ figure_entry (codes "C") 9 [] x.c
    ∷ choice_entry (codes "D") (codes "(no variable)") vars x.d
    ∷ choice_entry (codes "E") (codes "(no variable)") vars x.e
    ∷ place_entry (codes "first point") x.first
    ∷ count_entry (codes "points") x.count
    ∷ input_entries vars x.inputs

-- a point of a table, or the times of a window
abbrev pub table_entries : DeviceCode → Point → List (List ℕ)
table_entries Window p =
    number_entry (codes "close") 12 (codes "s") p.current ∷ number_entry (codes "open") 12 (codes "s") p.other ∷ []
table_entries code p = figure_entry (codes "input") 9 [] p.current ∷ figure_entry (codes "output") 9 [] p.other ∷ []

abbrev pub table_line : DeviceCode → ℕ → Point → List ℕ
table_line code number p = head_text (codes "point") number ++ all_separated (table_entries code p)

-- ---- formulas

-- the variables that the expression names, and its text
abbrev pub formula_entries : List (List ℕ) → Formula → List (List ℕ)
formula_entries vars x =
    variable_entry (codes "NAME") vars x.var
    ∷ count_entry (codes "card") (group_number x.group)
    ∷ count_entry (codes "variables") (length x.vars)
    ∷ map (variable_entry (codes "names") vars) x.vars ++ word_entry (codes "value") (expression_text vars x.vars x.expr) ∷ []

-- ---- supplemental cards

abbrev pub extra_card_line : List (List ℕ) → Extra → List ℕ
extra_card_line vars (OfDevice x) = card_line x.line (codes "device") (device_entries vars x)
extra_card_line vars (OfFormula x) = card_line x.line (codes "formula") (formula_entries vars x)

abbrev pub extra_points : List Point → Extra → List (List ℕ)
extra_points points (OfDevice x) = numbered (table_line x.code) 1 (points_of points x.first x.count)
extra_points points (OfFormula x) = []

-- a card and its points
abbrev pub extra_lines : List (List ℕ) → List Point → Extra → List (List ℕ)
extra_lines vars points x = extra_card_line vars x ∷ extra_points points x
