use Rattle.emtp_fields.proofs.Columns.{fields-more}
use Rattle.emtp_warnings.proofs.Growing.{first-more}
use Rattle.emtp_fields.proofs.fields.put_fields.Goals as goal

pub loop-at-preserved : goal.loop-at-preserved
loop-at-preserved c =
    record {
      first = first-more c.args.ruler.now c.loop-at.at c.loop-at.first c.first_behind-first.result c.loop-at.invariant.first c.first_behind-first.ensures.value;
      some = c.first_behind-first.ensures.some;
      order = c.first_behind-first.ensures.order;
      told = fields-more c.args.out.now.items c.loop-at.out.items c.put_ending.new.out.items c.args.ruler.now c.args.line.now c.args.kind c.loop-at.at c.loop-at.first c.loop-at.invariant.first c.loop-at.invariant.told c.in_ok-put_ending.ensures;
    }
