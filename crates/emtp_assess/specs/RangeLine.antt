-- The line behind the note of a run that ends with RANGE: which number of the last record was nearest to its range's end.
use Rattle.std.specs.Prelude.{◌+◌, ◌-◌, ◌++◌, [], List, None, Option, Some, codes, length, option_map, pos, position, ℕ, ℤ}
use Rattle.std.specs.Str.{bytes_eq}
use Rattle.emtp_assess.specs.Fronts.{branch_front, switch_front}
use Rattle.emtp_assess.specs.JudgedLines.{count_text, quantity}
use Rattle.emtp_assess.specs.declared.texts.TheConstants.{AMPERE, CURRENT, FLUX, KEPT_VOLTAGE, NODE, RANGE, STEP, VOLT, VOLTAGE, WEBER}
use Rattle.emtp_case.specs.StepRecord.{latest}
use Rattle.emtp_case.specs.declared.case.Parts.{Parts}
use Rattle.emtp_fix.specs.Decimal.{fixed_text}
use Rattle.emtp_fix.specs.declared.limit.TheConstants.{LARGEST_VALUE}
use Rattle.emtp_listing.specs.Entry.{node_entry}
use Rattle.emtp_listing.specs.Lines.{separated}
use Rattle.emtp_machine.specs.History.{History}
use Rattle.emtp_machine.specs.declared.end.Cause.{Cause}
use Rattle.emtp_machine.specs.declared.end.Cause.TheVariants.{Range}
use Rattle.emtp_machine.specs.declared.end.End.{End}
use Rattle.emtp_worth.specs.Nearest.{nearest}
use Rattle.emtp_worth.specs.declared.nearest.Number.{Number}
use Rattle.emtp_worth.specs.declared.nearest.Number.TheVariants.{Current, Flux, Kept, Through, Voltage}
use Rattle.emtp_worth.specs.declared.nearest.Reached.{Reached}

-- ---- the line

-- what the number is of
abbrev pub owner_text : List (List ℕ) → Number → List ℕ
owner_text nodes (Voltage node) = separated (node_entry NODE.now nodes node)
owner_text nodes (Current b) = codes ", " ++ branch_front nodes b
owner_text nodes (Kept b) = codes ", " ++ branch_front nodes b
owner_text nodes (Flux b) = codes ", " ++ branch_front nodes b
owner_text nodes (Through s) = codes ", " ++ switch_front nodes s

-- `, name=value unit of end unit`
unfoldable pub beside_end : List ℕ → ℕ → List ℕ → ℤ → List ℕ
beside_end name places unit value =
    quantity name places unit value ++ codes " of " ++ fixed_text (pos LARGEST_VALUE) places ++ unit

abbrev pub reached_text : Number → ℤ → List ℕ
reached_text (Voltage node) value = beside_end VOLTAGE.now 9 VOLT.now value
reached_text (Current b) value = beside_end CURRENT.now 9 AMPERE.now value
reached_text (Kept b) value = beside_end KEPT_VOLTAGE.now 9 VOLT.now value
reached_text (Flux b) value = beside_end FLUX.now 12 WEBER.now value
reached_text (Through s) value = beside_end CURRENT.now 9 AMPERE.now value

-- a number of the record of a step
unfoldable pub range_line : List (List ℕ) → ℕ → Reached → List ℕ
range_line nodes step r =
    RANGE.now ++ count_text STEP.now step ++ owner_text nodes r.of ++ reached_text r.of r.value ++ codes "\n"

-- ---- where there is one

-- the number of the node with a name, from 1
abbrev pub node_named : Parts → List ℕ → Option ℕ
node_named case name = option_map (λ at. at + 1) (position (λ n. bytes_eq n name) case.nodes)

-- the node that an end names by RANGE
abbrev pub ranged_by : Parts → Cause → List ℕ → Option ℕ
ranged_by case Range name = node_named case name
ranged_by case cause name = None

abbrev pub ranged_node : Parts → Option End → Option ℕ
ranged_node case None = None
ranged_node case (Some end) = ranged_by case end.cause end.name

abbrev pub line_of_reached : List (List ℕ) → ℕ → Option Reached → List ℕ
line_of_reached nodes step None = []
line_of_reached nodes step (Some r) = range_line nodes step r

abbrev pub range_by : Parts → History → Option ℕ → List ℕ
range_by case h None = []
range_by case h (Some node) =
    line_of_reached case.nodes (length h.records - 1) (nearest case node (latest h.records))

-- of a history that ends with RANGE
abbrev pub range_text : Parts → History → List ℕ
range_text case h = range_by case h (ranged_node case h.end)
