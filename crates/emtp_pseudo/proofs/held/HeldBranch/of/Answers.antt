use Rattle.std.proofs.Common.{refl, arith, rules}
use Rattle.std.proofs.lemmas.Int.{ints}
use Rattle.emtp_pseudo.proofs.held.HeldBranch.of.Goals as goal

pub returns-clause-held : goal.returns-clause-held
returns-clause-held c = record {
  card = refl;
  segment = search rules;
  history = search rules;
  sound = c.segment-segment.ensures.sound;
  moment = c.requires.moment;
  within = c.requires.within;
  history_small = omega (arith, ints, c.history_current.ensures.bound);
}
