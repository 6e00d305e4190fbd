use Rattle.std.proofs.Common.{◌++◌, map}
use Rattle.emtp_listing.specs.ChannelLines.{channel_line}
use Rattle.emtp_listing.specs.ControlLines.{block_lines, extra_lines, tacs_source_line}
use Rattle.emtp_listing.specs.Lines.{grouped, numbered}
use Rattle.emtp_listing.proofs.Chains.{lines_then}
use Rattle.emtp_listing.proofs.sections.put_control.Goals as goal

pub returns : goal.returns
returns c =
    let p = c.args.case.now.parts in
    lines_then (map (tacs_source_line p.nodes p.vars) p.tacs_sources) (grouped (block_lines p.vars) p.blocks ++ (grouped (extra_lines p.vars p.points) p.extras ++ numbered (channel_line p) 1 p.channels)) c.in_ok-put_tacs_sources.ensures
    (lines_then (grouped (block_lines p.vars) p.blocks) (grouped (extra_lines p.vars p.points) p.extras ++ numbered (channel_line p) 1 p.channels) c.in_ok-put_blocks.ensures
    (lines_then (grouped (extra_lines p.vars p.points) p.extras) (numbered (channel_line p) 1 p.channels) c.in_ok-put_extras.ensures c.in_ok-put_channels.ensures))
