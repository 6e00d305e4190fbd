use Rattle.std.proofs.Common.{◌≡◌, ◌≢◌, refl, to_z, of_z, arith}
use mir.Syntax.{w64, w128}
use Rattle.std.proofs.lemmas.List.{get_or-set_other}
use Rattle.emtp_fix.proofs.Wide.{through, through_64}
use Rattle.emtp_elim.specs.Matrix.{item}
use Rattle.emtp_elim.proofs.Entries.{entries_more}
use Rattle.emtp_elim.proofs.storing.pack.Goals as goal

pub loop-j-preserved : goal.loop-j-preserved
loop-j-preserved c =
    let j = c.loop-j.j in
    let at = c.loop-j.at in
    let number = item c.args.work.now j in
    let wide : to_z w128 (of_z w128 number) ≡ number = through number (omega (arith, c.requires.numbers j)) in
    let narrow : to_z w64 (of_z w64 number) ≡ number = through_64 number (c.requires.numbers j) in
    let was = c.loop-j.invariant in
    rw (wide, narrow) (record {
      entries = entries_more c.args.work.now c.args.from j c.loop-j.columns c.loop-j.values c.args.first at number was.entries (omega arith) (omega (arith, was.entries.few)) (omega (arith, was.entries.few)) refl;
      same_columns = λ e low. let other : e ≢ at = omega (arith, was.entries.order) in rw get_or-set_other (was.same_columns e low);
      same_values = λ e low. let other : e ≢ at = omega (arith, was.entries.order) in rw get_or-set_other (was.same_values e low);
    })
