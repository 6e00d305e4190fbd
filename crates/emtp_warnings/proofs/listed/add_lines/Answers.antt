use Rattle.std.proofs.Common.{arith}
use Rattle.emtp_warnings.proofs.Growing.{all-read, line-more}
use Rattle.emtp_warnings.proofs.listed.add_lines.Goals as goal

pub loop-at-preserved : goal.loop-at-preserved
loop-at-preserved c =
    line-more c.args.readings.now c.args.cards.now c.loop-at.at c.count_on.result c.read_at-read.result c.line-line.result.bytes.now c.loop-at.rest.now c.split_at.result.0.now c.split_at.result.1.now
    c.loop-at.out.items c.add_line.new.out.items c.extend_from_slice.new.self.items _
    c.read_at-read.ensures c.line-line.ensures.bytes (rw c.line-line.ensures.number at c.count_on.ensures.value) c.split_at.ensures.front c.split_at.ensures.back
    c.loop-at.invariant (rw c.line-line.ensures.number at c.in_ok-add_line.ensures) c.in_ok-extend_from_slice.ensures.items

pub returns : goal.returns
returns c = record {
  is = all-read c.args.readings.now c.args.cards.now c.loop-at.at c.loop-at.rest.now c.loop-at.out.items c.extend_from_slice-2.new.self.items _
      (omega (arith, c.loop-at.auto.at-end, c.loop-at-test.false, c.min-at-end.ensures, c.len.ensures.length)) c.loop-at.invariant c.in_ok-extend_from_slice-2.ensures.items;
}
