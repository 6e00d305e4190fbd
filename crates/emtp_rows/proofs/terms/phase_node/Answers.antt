use Rattle.std.proofs.Common.{◌≡◌, arith}
use Rattle.emtp_rows.specs.Nodal.{phase_node}
use Rattle.emtp_rows.proofs.Phases.{phase_there, phase_within}
use Rattle.emtp_rows.proofs.terms.phase_node.Goals as goal

pub end_at-requires : goal.end_at-requires
end_at-requires c =
    let case = c.args.case.now.parts in
    let there = phase_there case.branches case.trios c.args.trio c.args.phase c.args.case.now.fits.draft.network.in_threes c.requires.trio c.requires.phase in
    let first = rw c.as_slice.ensures at c.first_of_trio-first.ensures in
    rw c.as_slice-2.ensures (omega (arith, there, first))

pub returns : goal.returns
returns c =
    let case = c.args.case.now.parts in
    let first = rw c.as_slice.ensures at c.first_of_trio-first.ensures in
    let is : c.end_at.result ≡ phase_node case c.args.second c.args.trio c.args.phase = rw (c.as_slice-2.ensures, first) at c.end_at.ensures in
    record {
      value = is;
      there = omega (arith, is, phase_within case c.args.second c.args.trio c.args.phase c.args.case.now.fits.draft.network.in_threes c.requires.trio c.requires.phase c.args.case.now.fits.draft.network.branches);
    }
