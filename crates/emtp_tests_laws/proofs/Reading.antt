-- What an index read of a case.
use Rattle.std.proofs.Common.{◌≡◌, ◌∙◌, sym, ap, ℕ, ◌<◌, List, length, get_or, slice_get, Some}
use Rattle.std.proofs.lemmas.Option.{slice_get-get_or}
use Rattle.emtp_case.specs.declared.branch.Branch.{Branch}
use Rattle.emtp_case.specs.declared.branch.Lumped.{Lumped}
use Rattle.emtp_case.specs.declared.case.Parts.{Parts}
use Rattle.emtp_lumped.specs.held.Lumps.{IsSeries}

-- the branch that an index read
pub branch_read : (case : Parts) (bs : List Branch) (at : ℕ) (d x : Branch) → bs ≡ case.branches → at < length case.branches → get_or bs at d ≡ x → slice_get case.branches at ≡ Some x
branch_read case bs at d x same there is = slice_get-get_or case.branches at d there ∙ ap (λ xs. Some (get_or xs at d)) (sym same) ∙ ap Some is

-- the same of another value of the case
pub series_in : (held case : Parts) (at : ℕ) (x : Lumped) → held ≡ case → IsSeries case at x → IsSeries held at x
series_in held case at x same is = ap (λ (p : Parts). slice_get p.branches at) same ∙ is

-- a place has one branch
pub same_branch : (case : Parts) (at : ℕ) (x y : Lumped) → IsSeries case at x → IsSeries case at y → x ≡ y
same_branch case at x y a b = cc
