use Rattle.emtp_case.specs.declared.branch.Point.{Point}
use Rattle.emtp_case.specs.declared.control.Extra.{Extra}
use Rattle.emtp_case.specs.declared.control.Extra.TheVariants.{Device as OfDevice}
use Rattle.std.specs.Prelude.{List, length}
use Rattle.emtp_case.specs.held.Case.{IsDraft}
use Rattle.emtp_case.specs.declared.case.Parts.{Parts}
use Rattle.emtp_case.proofs.Growth.{both_or_not, same_both, drafts_same}
use Rattle.emtp_case.proofs.DraftSteps.{with_device}
use Rattle.emtp_case.proofs.draft.Draft.add_device.Goals as goal

pub invariant_of-self : goal.invariant_of-self
invariant_of-self c =
    let p = c.args.self.now.parts in
    let P : List Point → List Extra → Type 0 = λ xs ys. IsDraft (record p { points = xs; extras = ys }) in
    let more = with_device p c.args.device c.args.points.now c.args.self.now.fits c.requires.room c.requires.card c.requires.few c.requires.points c.requires.history in
    let other = rw c.len.ensures at c.push_both.ensures.other_ok in
    record { fits = both_or_not P c.push_both.result p.points c.push_both.new.list c.args.points.now p.extras c.push_both.new.other (OfDevice (record c.args.device { first = length p.points; count = length c.args.points.now })) c.push_both.ensures.list_ok other c.push_both.ensures.list_err c.push_both.ensures.other_err more c.args.self.now.fits }

pub returns-clause-err : goal.returns-clause-err
returns-clause-err c =
    let p = c.args.self.now.parts in
    let f : List Point → List Extra → Parts = λ xs ys. record p { points = xs; extras = ys } in
    drafts_same c.push_both.result _ c.args.self.now (same_both f c.push_both.result p.points c.push_both.new.list p.extras c.push_both.new.other c.push_both.ensures.list_err c.push_both.ensures.other_err)
