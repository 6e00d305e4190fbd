use Rattle.emtp_case.specs.declared.branch.Point.{Point}
use Rattle.emtp_case.specs.declared.branch.Branch.{Branch}
use Rattle.emtp_case.specs.declared.branch.Branch.TheVariants.{Pseudo as OfPseudo}
use Rattle.std.specs.Prelude.{◌++◌, ◌∷◌, [], List, length}
use Rattle.emtp_case.specs.held.Case.{IsDraft}
use Rattle.emtp_case.specs.HistoryValues.{history_values_of}
use Rattle.emtp_case.specs.declared.case.Parts.{Parts}
use Rattle.emtp_case.proofs.Growth.{both_or_not, longer_both, then_ok}
use Rattle.emtp_case.proofs.DraftSteps.{history_with_pseudo, with_pseudo}
use Rattle.emtp_case.proofs.draft.Draft.add_pseudo.Goals as goal

pub invariant_of-self : goal.invariant_of-self
invariant_of-self c =
    let p = c.args.self.now.parts in
    let P : List Point → List Branch → Type 0 = λ xs ys. IsDraft (record p { points = xs; branches = ys }) in
    let more = with_pseudo p c.args.branch c.args.points.now c.args.self.now.fits c.requires.room c.requires.ends c.requires.some c.requires.few c.requires.characteristic in
    let other = rw c.len.ensures at c.push_both.ensures.other_ok in
    record { fits = both_or_not P c.push_both.result p.points c.push_both.new.list c.args.points.now p.branches c.push_both.new.other (OfPseudo (record c.args.branch { first = length p.points; count = length c.args.points.now })) c.push_both.ensures.list_ok other c.push_both.ensures.list_err c.push_both.ensures.other_err more c.args.self.now.fits }

pub returns-clause-ok : goal.returns-clause-ok
returns-clause-ok c =
    let p = c.args.self.now.parts in
    let f : List Point → List Branch → Parts = λ xs ys. record p { points = xs; branches = ys } in
    let other = rw c.len.ensures at c.push_both.ensures.other_ok in
    longer_both f c.push_both.result c.push_both.new.list (p.points ++ c.args.points.now) c.push_both.new.other (p.branches ++ OfPseudo (record c.args.branch { first = length p.points; count = length c.args.points.now }) ∷ []) c.push_both.ensures.list_ok other

pub returns-clause-history : goal.returns-clause-history
returns-clause-history c =
    let p = c.args.self.now.parts in
    then_ok history_values_of c.push_both.result _ _ _ (returns-clause-ok c) (history_with_pseudo p c.args.branch c.args.points.now)
