-- The line of a run that ends with RANGE.
use Rattle.std.proofs.Common.{◌≡◌, ◌∙◌, ◌+◌, ◌-◌, ◌++◌, ap, subst, arith, List, length, OnOk, Option, Some, Result, ℕ}
use Rattle.emtp_case.specs.StepRecord.{latest}
use Rattle.emtp_case.specs.declared.case.Parts.{Parts}
use Rattle.emtp_machine.specs.History.{History}
use Rattle.emtp_worth.specs.Nearest.{nearest}
use Rattle.emtp_worth.specs.declared.nearest.Reached.{Reached}
use Rattle.emtp_assess.specs.RangeLine.{line_of_reached, range_by}

pub reached_put : {A E : Type 0} (result : Result A E) (case : Parts) (h : History) (node made : ℕ) (nodes : List (List ℕ)) (reached : Option Reached) (old new : List ℕ)
    → nodes ≡ case.nodes → made + 1 ≡ length h.records → reached ≡ nearest case node (latest h.records)
    → OnOk result (new ≡ old ++ line_of_reached nodes made reached) → OnOk result (new ≡ old ++ range_by case h (Some node))
reached_put result case h node made nodes reached old new nodes_is made_is reached_is put =
    let step : made ≡ length h.records - 1 = omega (arith, made_is) in
    let all : line_of_reached nodes made reached ≡ range_by case h (Some node) =
    ap (λ (ns : List (List ℕ)). line_of_reached ns made reached) nodes_is
    ∙ ap (λ (n : ℕ). line_of_reached case.nodes n reached) step
    ∙ ap (line_of_reached case.nodes (length h.records - 1)) reached_is in
    subst (λ (t : List ℕ). OnOk result (new ≡ old ++ t)) all put
