use Rattle.emtp_listing.proofs.laws.counts_are_within_their_limits.Goals as goal

pub returns : goal.returns
returns c = λ p is. record {
  nodes = is.draft.counts.nodes;
  branches = is.draft.counts.branches;
  switches = is.draft.counts.switches;
  sources = is.draft.counts.sources;
  tacs_sources = is.draft.counts.tacs_sources;
  blocks = is.draft.counts.blocks;
  extras = is.draft.counts.extras;
  channels = is.draft.counts.channels;
  steps = is.draft.run.few_steps;
  stored = is.draft.counts.stored;
  history = is.draft.counts.history;
}
