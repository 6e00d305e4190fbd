use Rattle.std.proofs.Common.{refl, arith}
use Rattle.emtp_elim.proofs.KeptRows.{count_is, take-rows_kept, stored_first}
use Rattle.emtp_elim.proofs.sparse.SparseRows.cut.Goals as goal

pub invariant_of-self : goal.invariant_of-self
invariant_of-self c = stored_first _ _ c.args.rows _ _ _ _ _ c.self.invariant (omega (arith, c.requires, count_is _ _ _ _ _ _ _ c.self.view_is))

pub returns : goal.returns
returns c =
    let within = count_is _ _ _ _ _ _ _ c.self.view_is in
    rw (← c.self.view_is, take-rows_kept c.self.inside.size c.self.inside.count c.args.rows c.self.inside.starts.items c.self.inside.columns.items c.self.inside.values.items (omega (arith, c.requires, within))) refl
