use Rattle.std.proofs.Common.{FitsSigned, rules}
use mir.Syntax.{w128}
use Rattle.std.proofs.lemmas.Int.{to_z-of_z}
use Rattle.emtp_assess.proofs.Lines.{ended-put}
use Rattle.emtp_assess.proofs.run_note.put_ended.Goals as goal

pub returns : goal.returns
returns c =
    let measured : FitsSigned w128 c.args.end.now.measured = search rules in
    let caused = simp to_z-of_z at c.in_ok-put_cause.ensures in
    ended-put c.put-3.result c.args.end.now c.args.samples c.args.redone c.args.text.now.items c.put.new.text.items c.put_number.new.text.items c.put-2.new.text.items c.put_cause.new.text.items
    c.put_counts.new.text.items c.put-3.new.text.items
    c.in_ok-put.ensures c.in_ok-put_number.ensures c.in_ok-put-2.ensures caused c.in_ok-put_counts.ensures c.put-3.ensures
