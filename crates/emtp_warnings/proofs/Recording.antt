-- A branch more.
use Rattle.std.proofs.Common.{◌≡◌, ◌++◌, ◌∙◌, ap, List, ℕ}
use Rattle.emtp_case.specs.Branch.{from_of, line_of, to_of}
use Rattle.emtp_case.specs.declared.branch.Branch.{Branch}
use Rattle.emtp_case.specs.declared.case.Parts.{Parts}
use Rattle.emtp_warnings.proofs.Adding.{rewritten, then}
use Rattle.emtp_warnings.specs.AddsTo.{AddsTo}
use Rattle.emtp_warnings.specs.RecordWarnings.{acting_warnings, branch_warnings, ends_warnings, value_warnings}
use Rattle.emtp_warnings.specs.declared.finding.Warning.{Warning}

pub branch-added : {old mid next new : List Warning} (p : Parts) (b : Branch) (line a to : ℕ) → line ≡ line_of b → a ≡ from_of b → to ≡ to_of b
    → AddsTo old (ends_warnings p line a to) mid → AddsTo mid (value_warnings p b) next → AddsTo next (acting_warnings p b) new → AddsTo old (branch_warnings p b) new
branch-added p b line a to l f t ends values acting =
    rewritten
    (ap (λ (n : ℕ). ends_warnings p n a to ++ value_warnings p b ++ acting_warnings p b) l
    ∙ ap (λ (n : ℕ). ends_warnings p (line_of b) n to ++ value_warnings p b ++ acting_warnings p b) f
    ∙ ap (λ (n : ℕ). ends_warnings p (line_of b) (from_of b) n ++ value_warnings p b ++ acting_warnings p b) t)
    (then (then ends values) acting)
