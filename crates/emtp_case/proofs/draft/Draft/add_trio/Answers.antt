use Rattle.emtp_case.specs.declared.branch.Trio.{Trio}
use Rattle.emtp_case.specs.declared.branch.Branch.{Branch}
use Rattle.emtp_case.specs.Case.{phase_branches}
use Rattle.std.specs.Prelude.{◌++◌, ◌∷◌, [], List, length}
use Rattle.emtp_case.specs.held.Case.{IsDraft}
use Rattle.emtp_case.specs.HistoryValues.{history_values_of}
use Rattle.emtp_case.specs.declared.case.Parts.{Parts}
use Rattle.emtp_case.proofs.Growth.{both_or_not, drafts_same, longer_both, same_both, then_ok}
use Rattle.emtp_case.proofs.DraftSteps.{history_with_trio, with_trio}
use Rattle.emtp_case.proofs.draft.Draft.add_trio.Goals as goal

pub invariant_of-self : goal.invariant_of-self
invariant_of-self c =
    let p = c.args.self.now.parts in
    let P : List Branch → List Trio → Type 0 = λ xs ys. IsDraft (record p { branches = xs; trios = ys }) in
    let more = with_trio p c.args.modes c.args.a c.args.b c.args.c c.args.self.now.fits c.requires.room c.requires.a c.requires.b c.requires.c c.requires.modes c.requires.history in
    let list = rw c.len-trio.ensures at c.push_both.ensures.list_ok in
    let other = rw c.len-first.ensures at c.push_both.ensures.other_ok in
    record { fits = both_or_not P c.push_both.result p.branches c.push_both.new.list (phase_branches (length p.trios) c.args.a c.args.b c.args.c) p.trios c.push_both.new.other (record c.args.modes { first = length p.branches }) list other c.push_both.ensures.list_err c.push_both.ensures.other_err more c.args.self.now.fits }

pub returns-clause-err : goal.returns-clause-err
returns-clause-err c =
    let p = c.args.self.now.parts in
    let f : List Branch → List Trio → Parts = λ xs ys. record p { branches = xs; trios = ys } in
    drafts_same c.push_both.result _ c.args.self.now (same_both f c.push_both.result p.branches c.push_both.new.list p.trios c.push_both.new.other c.push_both.ensures.list_err c.push_both.ensures.other_err)

pub returns-clause-ok : goal.returns-clause-ok
returns-clause-ok c =
    let p = c.args.self.now.parts in
    let f : List Branch → List Trio → Parts = λ xs ys. record p { branches = xs; trios = ys } in
    let list = rw c.len-trio.ensures at c.push_both.ensures.list_ok in
    let other = rw c.len-first.ensures at c.push_both.ensures.other_ok in
    longer_both f c.push_both.result c.push_both.new.list (p.branches ++ phase_branches (length p.trios) c.args.a c.args.b c.args.c) c.push_both.new.other (p.trios ++ record c.args.modes { first = length p.branches } ∷ []) list other

pub returns-clause-history : goal.returns-clause-history
returns-clause-history c =
    let p = c.args.self.now.parts in
    then_ok history_values_of c.push_both.result _ _ _ (returns-clause-ok c) (history_with_trio p c.args.modes c.args.a c.args.b c.args.c)
