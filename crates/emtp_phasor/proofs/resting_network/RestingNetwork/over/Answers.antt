use Rattle.std.proofs.Common.{◌∙◌, ap, length, arith}
use Rattle.emtp_phasor.specs.held.HeldGroups.{members_by_row}
use Rattle.emtp_phasor.proofs.Volting.{kinds_size}
use Rattle.emtp_phasor.proofs.resting_network.RestingNetwork.over.Goals as goal

pub returns : goal.returns
returns c = record {
  order_is = c.requires.order;
  free = c.requires.free;
  kinds_are = c.requires.kinds;
  ties = c.requires.are.ties;
  lists_are = c.in_ok-lists.ensures;
  groups_are = c.in_ok-groups.ensures ∙ ap members_by_row (c.deref.ensures.value ∙ c.requires.kinds);
  brought_are = c.in_ok-brought.ensures.value;
  brought_small = c.in_ok-brought.ensures.small;
}

pub members_by_row-requires : goal.members_by_row-requires
members_by_row-requires c = omega (arith, ap length (c.deref.ensures.value ∙ c.requires.kinds), kinds_size c.args.case.now.parts, c.requires.few)
