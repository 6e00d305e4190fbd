use Rattle.std.proofs.Common.{◌++◌, map}
use Rattle.emtp_listing.specs.Lines.{grouped}
use Rattle.emtp_listing.specs.NetworkLines.{branch_group, source_line, switch_line, trio_line}
use Rattle.emtp_listing.proofs.Chains.{lines_then}
use Rattle.emtp_listing.proofs.sections.put_network.Goals as goal

pub returns : goal.returns
returns c =
    let p = c.args.parts.now in
    lines_then (grouped (branch_group p.nodes p.points) p.branches) (map trio_line p.trios ++ (map (switch_line p.nodes p.vars) p.switches ++ map (source_line p.nodes p.vars) p.sources)) c.in_ok-put_branches.ensures
    (lines_then (map trio_line p.trios) (map (switch_line p.nodes p.vars) p.switches ++ map (source_line p.nodes p.vars) p.sources) c.in_ok-put_trios.ensures
    (lines_then (map (switch_line p.nodes p.vars) p.switches) (map (source_line p.nodes p.vars) p.sources) c.in_ok-put_switches.ensures c.in_ok-put_sources.ensures))
