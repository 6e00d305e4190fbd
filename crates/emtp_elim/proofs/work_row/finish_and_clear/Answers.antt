use Rattle.std.proofs.Common.{◌≡◌, ◌∙◌, ◌<◌, ℕ, pos, length, subst, arith}
use Rattle.std.proofs.lemmas.Grind.{common_steps}
use Rattle.emtp_elim.specs.Matrix.{item}
use Rattle.emtp_elim.specs.held.WorkRow.{IsClearRow}
use Rattle.emtp_elim.proofs.Writing.{clear_by}
use Rattle.emtp_elim.proofs.work_row.finish_and_clear.Goals as goal

pub returns-in-Ok-clause-clear : goal.returns-in-Ok-clause-clear
returns-in-Ok-clause-clear c = subst (λ n. IsClearRow n c.clear.new.work) c.add_within.auto.work c.clear.ensures

pub returns-in-Err-clause-clear : goal.returns-in-Err-clause-clear
returns-in-Err-clause-clear c =
    let zeros : (k : ℕ) → k < length c.fill.new.self → item c.fill.new.self k ≡ pos 0 = grind (arith, common_steps) in
    clear_by (length c.args.work.now) c.fill.new.self (c.fill.ensures.len ∙ c.add_within.auto.work) zeros
