use Rattle.std.proofs.Common.{◌≡◌, ◌+◌, ℤ, List, length, sym, subst}
use Rattle.emtp_case.specs.held.Case.{IsCase}
use Rattle.emtp_case.specs.RowOrder.{Rows}
use Rattle.emtp_case.specs.held.RowOrder.{IsRowOrder}
use Rattle.emtp_case.specs.declared.case.Parts.{Parts}
use Rattle.emtp_case.specs.declared.switch.SwitchState.{SwitchState}
use Rattle.emtp_switch.specs.Currents.{currents_of}
use Rattle.emtp_switch.specs.held.Groups.{EndWithin}
use Rattle.emtp_switch.proofs.Balancing.{AreBalanced, currents_balance}
use Rattle.emtp_switch.proofs.Plans.{same_count, switch_ends}
use Rattle.emtp_switch.proofs.laws.switch_currents_balance.Goals as goal

both : (p : Parts) (rows : Rows) (states : List SwitchState) (leaving : List ℤ) → IsCase p → IsRowOrder p rows → length states ≡ length p.switches → length leaving ≡ length rows.nodes → AreBalanced p rows states leaving (currents_of p.switches rows states leaving)
both p rows states leaving fits order count size =
    currents_balance p rows states leaving order (subst (λ n. EndWithin p.switches (n + 1)) (sym (same_count p rows order)) (switch_ends p fits)) count (sym size)

pub returns-clause-nodes : goal.returns-clause-nodes
returns-clause-nodes c = λ leaving size. (both c.args.case.now.parts c.args.order.now c.args.states.now leaving c.args.case.now.fits c.requires.order c.requires.states size).nodes

pub returns-clause-roots : goal.returns-clause-roots
returns-clause-roots c = λ leaving size. (both c.args.case.now.parts c.args.order.now c.args.states.now leaving c.args.case.now.fits c.requires.order c.requires.states size).roots
