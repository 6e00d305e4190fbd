use Rattle.emtp_listing.proofs.Chains.{then}
use Rattle.emtp_listing.proofs.source.put_tacs_source.Goals as goal

pub returns : goal.returns
returns c = then c.in_ok-put_head.ensures (then c.in_ok-put_word.ensures (then c.in_ok-put_variable.ensures (then c.in_ok-put_figure.ensures (then c.in_ok-put_quantity.ensures (then c.in_ok-put_time.ensures c.in_ok-put_shape.ensures)))))
