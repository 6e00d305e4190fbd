use Rattle.emtp_case.proofs.DraftSteps.{nothing_yet}
use Rattle.emtp_case.proofs.draft.Draft.new.Goals as goal

pub invariant_of-result : goal.invariant_of-result
invariant_of-result c =
    record { fits = rw (c.in_ok-vars.ensures, c.new.ensures, c.new-2.ensures, c.new-3.ensures, c.new-4.ensures, c.new-5.ensures, c.new-6.ensures, c.new-7.ensures, c.new-8.ensures, c.new-9.ensures, c.new-10.ensures) (nothing_yet c.args.run c.requires) }
