use Rattle.std.proofs.Common.{◌≡◌, ◌∙◌, ℕ, ◌+◌, ◌<◌, List, All, [], ◌∷◌, ◌++◌, ap, get_or, length, map, sym, take}
use Rattle.std.proofs.lemmas.List.{map_more}
use Rattle.emtp_case.specs.Branch.{from_of, to_of}
use Rattle.emtp_case.specs.held.Branch.{IsBranch}
use Rattle.emtp_case.specs.held.Range.{AreEnds}
use Rattle.emtp_case.specs.held.Sizes.{sizes_of}
use Rattle.emtp_case.specs.declared.branch.Branch.{Branch}
use Rattle.emtp_case.specs.declared.case.Parts.{Parts}
use Rattle.emtp_rows.specs.held.Terms.{end_rows}
use Rattle.emtp_rows.specs.held.Touched.{row_at}
use Rattle.emtp_rows.proofs.Phases.{branch_ends}
use Rattle.emtp_rows.proofs.terms.ends_of_branches.Goals as goal

ends_there : (case : Parts) (bs : List Branch) (at : ℕ) (d : Branch) (ends : ℕ × ℕ) → All (IsBranch case.run (sizes_of case) case.points) case.branches → bs ≡ case.branches → at < length bs
    → ends ≡ (from_of (get_or bs at d), to_of (get_or bs at d)) → AreEnds (length case.nodes) ends.0 ends.1
ends_there case bs at d ends all same below is = rw (is, same) (branch_ends case.run (sizes_of case) case.points (get_or case.branches at d) (all at d (rw same at below)))

rows_more : (case : Parts) (bs : List Branch) (at : ℕ) (d : Branch) (ends : ℕ × ℕ) (x y : ℕ) → at < length bs → ends ≡ (from_of (get_or bs at d), to_of (get_or bs at d)) → x ≡ row_at case ends.0 → y ≡ row_at case ends.1
    → map (end_rows case) (take at bs) ++ (x, y) ∷ [] ≡ map (end_rows case) (take (at + 1) bs)
rows_more case bs at d ends x y below is first second = rw (first, second, is) (sym (map_more (end_rows case) bs at d below))

pub row_at-requires : goal.row_at-requires
row_at-requires c =
    let ends = ends_there c.args.case.now.parts c.as_slice-branch-items.result.now _ _ _ c.args.case.now.fits.draft.network.branches c.as_slice-branch-items.ensures c.loop-branch-test.true c.ends-from.ensures in
    record { order = c.requires; node = ends.from_there }

pub row_at-requires-in-loop-branch : goal.row_at-requires-in-loop-branch
row_at-requires-in-loop-branch c =
    let ends = ends_there c.args.case.now.parts c.as_slice-branch-items.result.now _ _ _ c.args.case.now.fits.draft.network.branches c.as_slice-branch-items.ensures c.loop-branch-test.true c.ends-from.ensures in
    record { order = c.requires; node = ends.to_there }

pub loop-branch-preserved : goal.loop-branch-preserved
loop-branch-preserved c =
    c.in_ok-push.ensures.items ∙ ap (λ l. l ++ (c.row_at.result, c.row_at-in-loop-branch.result) ∷ []) c.loop-branch.invariant
    ∙ rows_more c.args.case.now.parts c.as_slice-branch-items.result.now c.loop-branch.branch-index _ _ _ _ c.loop-branch-test.true c.ends-from.ensures c.row_at.ensures c.row_at-in-loop-branch.ensures
